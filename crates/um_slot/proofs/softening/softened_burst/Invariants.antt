use Rattle.{
  burst_map.specs.training_seq.bit_blocks.SoftValues.IsSoftBit,
  std.proofs.Common.{◌≡◌, ℕ, ◌<◌, length, get_or, pos},
  um_slot.specs.Slots.softened,
}
use Rattle.um_slot.proofs.softening.softened_burst.Given as goal

abbrev pub invariant-loop-i : goal.invariant-loop-i
invariant-loop-i l = (length l.soft ≡ 148) × ((k : ℕ) → k < l.i → get_or l.soft k (pos 0) ≡ softened (get_or l.burst k (pos 0)))
    × ((k : ℕ) → k < l.i → IsSoftBit (get_or l.soft k (pos 0)))
