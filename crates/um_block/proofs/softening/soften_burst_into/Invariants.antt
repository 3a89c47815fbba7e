use Rattle.{std.proofs.Common.{◌≡◌, ◌-◌, ◌≤◌, ◌%◌, length, take}, um_block.specs.Received.soft_bits}
use Rattle.um_block.proofs.softening.soften_burst_into.Given as goal

abbrev pub invariant-loop-at : goal.invariant-loop-at
invariant-loop-at l = (length l.soft ≡ 148) × (take l.at l.soft ≡ soft_bits (take l.at l.burst)) × (l.at ≤ 144) × (l.at % 16 ≡ 0)

abbrev pub decreases-loop-at : goal.decreases-loop-at
decreases-loop-at l = 144 - l.at
