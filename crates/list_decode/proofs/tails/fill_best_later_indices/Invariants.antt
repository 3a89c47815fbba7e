use Rattle.{
  std.proofs.Common.{◌+◌, ◌-◌, ◌<◌, ◌≤◌, ℕ, Some, get_or, length},
  trellis_decode.specs.Trellis.traceback,
  list_decode.specs.{DeviatingWords.{is_in_range, IsLeastLossFreePosition}, LeastLosses.IsLeastLossDeviationOrNone},
}
use Rattle.list_decode.proofs.tails.fill_best_later_indices.Given as goal

abbrev pub invariant-loop-k : goal.invariant-loop-k
invariant-loop-k l = record {
  best : IsLeastLossDeviationOrNone (traceback l.rows 0) l.losses (is_in_range l.k (length l.rows - 4)) (length l.rows - 4) (Some l.best);
  each : (j : ℕ) → l.k ≤ j → j + 4 < length l.rows →
      IsLeastLossFreePosition (traceback l.rows 0) l.losses (is_in_range j (length l.rows - 4)) (length l.rows - 4) (get_or l.indices j 0);
}
