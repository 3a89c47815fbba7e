use Rattle.lapdm_window.proofs.Steps.{IsValidEndpoint-initial, step-end, step-link}
use Rattle.lapdm_window.proofs.laws.law_endpoint_stays_valid.Goals as goal

pub returns-clause-start : goal.returns-clause-start
returns-clause-start c = IsValidEndpoint-initial

pub returns-clause-step : goal.returns-clause-step
returns-clause-step c = step-end

pub returns-clause-link : goal.returns-clause-link
returns-clause-link c = step-link
