use Rattle.{std.proofs.Common.{length, map, take, ◌-◌, ◌≡◌}, um_block.specs.Received.soft_bits}
use Rattle.um_formats.proofs.soft_digits.write_soft_values_of_bit_digits.Given as goal

-- the soft values written so far are those of the digits read so far
abbrev pub invariant-loop-i : goal.invariant-loop-i
invariant-loop-i g l = (take l.i l.values ≡ soft_bits (map (λ octet. octet - 48) (take l.i l.digits)))
    × (length l.values ≡ length l.digits)
