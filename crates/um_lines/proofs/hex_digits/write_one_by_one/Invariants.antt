use Rattle.{std.proofs.Common.{get_or, length, ℕ, ◌<◌, ◌≡◌}, um_lines.specs.HexPlaces.hex_octet_at}
use Rattle.um_lines.proofs.hex_digits.write_one_by_one.Given as goal

-- each octet written so far has the value of its two hexadecimal digits
abbrev pub invariant-loop-i : goal.invariant-loop-i
invariant-loop-i l =
    (length l.octets ≡ length l.initial.octets) × ((k : ℕ) → k < l.i → get_or l.octets k 0 ≡ hex_octet_at l.digits k)
