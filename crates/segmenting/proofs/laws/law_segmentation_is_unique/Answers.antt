use Rattle.segmenting.proofs.Lemmas.{one_cutting}
use Rattle.segmenting.proofs.laws.law_segmentation_is_unique.Goals as goal

pub returns : goal.returns
returns c = one_cutting
