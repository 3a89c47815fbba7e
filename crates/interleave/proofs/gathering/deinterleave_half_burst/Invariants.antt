use Rattle.{
  std.proofs.Common.{◌≡◌, ◌≢◌, ℕ, ◌+◌, ◌*◌, ◌<◌, length, get_or, pos},
  interleave.specs.ColumnPositions.coded_bit_number_in_burst,
}
use Rattle.interleave.proofs.gathering.deinterleave_half_burst.Given as goal

-- the first i soft bits are written to the indexes of their coded bits; all others are unchanged
abbrev pub invariant-loop-i : goal.invariant-loop-i
invariant-loop-i l =
    (length l.soft ≡ 456) × ((j : ℕ) → j < l.i → get_or l.soft (coded_bit_number_in_burst l.b (57 * l.half + j)) (pos 0) ≡
    get_or l.values j (pos 0))
    × ((k : ℕ) → k < 456 → ((j : ℕ) → j < l.i → coded_bit_number_in_burst l.b (57 * l.half + j) ≢ k) →
    get_or l.soft k (pos 0) ≡ get_or l.initial.soft k (pos 0))
