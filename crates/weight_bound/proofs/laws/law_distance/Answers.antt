use Rattle.weight_bound.proofs.Lemmas.{at_least_seven}
use Rattle.weight_bound.proofs.laws.law_distance.Goals as goal

pub returns : goal.returns
returns c = at_least_seven c.args.u.now c.args.v.now c.requires.first c.requires.second c.requires.count c.requires.different
