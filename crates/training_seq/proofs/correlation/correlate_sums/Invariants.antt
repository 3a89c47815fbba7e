use Rattle.{
  std.proofs.Common.{◌≡◌, ℕ, ◌*◌, ◌≤◌, drop, length, ◌+ℤ◌},
  bit_blocks.specs.SoftValues.likelihood,
  training_seq.specs.{Ranges.IsMagnitudeWithin, Sequences.midamble, Sums.soft_bit_at},
}
use Rattle.training_seq.proofs.correlation.correlate_sums.Given as goal

abbrev pub invariant-loop-i : goal.invariant-loop-i
invariant-loop-i l =
    (length l.totals.lanes ≡ 8)
    × ((tsc : ℕ) → tsc ≤ 7 →
    (soft_bit_at l.totals.lanes tsc +ℤ likelihood (drop l.i l.sums) (drop l.i (midamble tsc)) ≡ likelihood l.sums (midamble tsc))
    × IsMagnitudeWithin (1024 * l.i) (soft_bit_at l.totals.lanes tsc))
