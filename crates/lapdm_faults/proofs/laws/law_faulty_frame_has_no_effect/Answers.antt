use Rattle.lapdm_faults.proofs.Faults.{no_effect}
use Rattle.lapdm_faults.proofs.laws.law_faulty_frame_has_no_effect.Goals as goal

pub returns : goal.returns
returns c = no_effect
