use Rattle.lapdm_window.proofs.Steps.{step-bound}
use Rattle.lapdm_window.proofs.laws.law_at_most_two_frames_and_notices.Goals as goal

pub returns : goal.returns
returns c = step-bound
