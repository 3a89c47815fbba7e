use Rattle.lapdm_progress.proofs.Bounds.{sapi_3_progresses, sapi_3_is_kept}
use Rattle.lapdm_progress.proofs.law_sapi_3_progresses_unless_held_up.Goals as goal

pub returns-clause-progress : goal.returns-clause-progress
returns-clause-progress c = sapi_3_progresses

pub returns-clause-kept : goal.returns-clause-kept
returns-clause-kept c = sapi_3_is_kept
