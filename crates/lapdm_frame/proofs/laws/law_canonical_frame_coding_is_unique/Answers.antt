use Rattle.lapdm_frame.proofs.Lemmas.{only_canonical}
use Rattle.lapdm_frame.proofs.laws.law_canonical_frame_coding_is_unique.Goals as goal

pub returns : goal.returns
returns c = only_canonical
