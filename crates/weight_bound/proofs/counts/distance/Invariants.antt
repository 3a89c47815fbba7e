use Rattle.{std.{proofs.Common.{◌≡◌, ◌≤◌}, specs.List.{count_by, range_with_len}}, weight_bound.specs.Distance.differ_at}
use Rattle.weight_bound.proofs.counts.distance.Given as goal

abbrev pub invariant-loop-k : goal.invariant-loop-k
invariant-loop-k l = record {
  counted : l.places ≡ count_by (differ_at l.a l.b) (range_with_len 0 l.k);
  few : l.places ≤ l.k;
}
