use Rattle.{std.proofs.Common.{◌≡◌, ℕ, ◌+◌, ◌<◌, length, get_or, pos}, um_block.specs.Received.soft_bit_of}
use Rattle.um_block.proofs.softening.soften_sixteen_bits.Given as goal

abbrev pub invariant-loop-i : goal.invariant-loop-i
invariant-loop-i l = (length l.soft ≡ 16)
    × ((k : ℕ) → k < l.i → get_or l.soft k (pos 0) ≡ soft_bit_of (get_or l.burst (l.at + k) 0))
