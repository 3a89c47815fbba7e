use Rattle.weight_bound.proofs.Lemmas.{reaches_seven}
use Rattle.weight_bound.proofs.laws.law_free_distance_is_seven.Goals as goal

pub returns : goal.returns
returns c = reaches_seven
