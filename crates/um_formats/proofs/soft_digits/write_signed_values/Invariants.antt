use Rattle.{std.proofs.Common.{length, take, ◌≡◌}, um_formats.specs.SoftOctets.signed_octets}
use Rattle.um_formats.proofs.soft_digits.write_signed_values.Given as goal

-- the soft values written so far are those of the octets read so far
abbrev pub invariant-loop-i : goal.invariant-loop-i
invariant-loop-i g l = (take l.i l.values ≡ signed_octets (take l.i l.octets)) × (length l.values ≡ length l.octets)
