use Rattle.lapdm_window.proofs.Steps.{step-delivers}
use Rattle.lapdm_window.proofs.laws.law_notices_deliver_completed_messages.Goals as goal

pub returns : goal.returns
returns c = step-delivers
