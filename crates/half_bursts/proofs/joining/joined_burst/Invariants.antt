use Rattle.{
  bit_blocks.specs.SoftValues.IsSoftBit,
  half_bursts.specs.Halves.joined_value,
  std.proofs.Common.{◌≡◌, ℕ, ◌<◌, length, get_or, pos},
}
use Rattle.half_bursts.proofs.joining.joined_burst.Given as goal

abbrev pub invariant-loop-p : goal.invariant-loop-p
invariant-loop-p l =
    (length l.joined ≡ 148)
    × ((k : ℕ) → k < l.p →
    (get_or l.joined k (pos 0) ≡ joined_value (pos 0) l.odd l.even k) × IsSoftBit (get_or l.joined k (pos 0)))
