use Rattle.{std.proofs.Common.{length, ℕ, ◌+◌, ◌<◌, ◌≡◌}, um_lines.specs.HexPlaces.HasDigitsOfOctet}
use Rattle.um_lines.proofs.lower_digits.write_sixteen_hex_octets.Given as goal

-- the digits of all octets before index `at + i` are written
abbrev pub invariant-loop-i : goal.invariant-loop-i
invariant-loop-i l = (length l.digits ≡ length l.initial.digits)
    × ((k : ℕ) → k < l.at + l.i → HasDigitsOfOctet l.octets l.digits k)
