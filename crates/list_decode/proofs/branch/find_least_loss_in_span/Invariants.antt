use Rattle.{
  std.proofs.Common.{◌≡◌, ◌<◌, take},
  list_decode.specs.{Branches.is_in_range, DeviatingWords.state_after_bits, LeastLosses.IsLeastLossSoFar},
}
use Rattle.list_decode.proofs.branch.find_least_loss_in_span.Given as goal

abbrev pub invariant-loop-k : goal.invariant-loop-k
invariant-loop-k l = record {
  small : l.state < 16;
  state : l.state ≡ state_after_bits 0 (take l.k l.list);
  best : IsLeastLossSoFar l.list l.losses (is_in_range l.span.from l.k) l.k l.best;
}
