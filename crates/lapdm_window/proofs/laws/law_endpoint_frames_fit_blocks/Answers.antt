use Rattle.lapdm_window.proofs.Steps.{step-frames}
use Rattle.lapdm_window.proofs.laws.law_endpoint_frames_fit_blocks.Goals as goal

pub returns : goal.returns
returns c = step-frames
