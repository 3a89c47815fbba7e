use Rattle.weight_bound.proofs.Lemmas.{IsSoFar}
use Rattle.weight_bound.proofs.counts.strengths.Given as goal

abbrev pub invariant-loop-value : goal.invariant-loop-value
invariant-loop-value l = IsSoFar l.soft l.value-index l.least l.greatest
