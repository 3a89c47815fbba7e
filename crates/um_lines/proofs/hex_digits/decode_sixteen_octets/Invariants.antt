use Rattle.{
  hex.specs.Hex.is_hex_digit,
  std.{proofs.Common.{IsTrue, get_or, length, ℕ, ◌+◌, ◌<◌, ◌≡◌}, specs.List.list_all},
  um_lines.specs.HexPlaces.hex_octet_at,
}
use Rattle.um_lines.proofs.hex_digits.decode_sixteen_octets.Given as goal

-- each octet written so far has the value of its two hexadecimal digits
abbrev pub invariant-loop-i : goal.invariant-loop-i
invariant-loop-i l =
    (length l.octets ≡ length l.initial.octets)
    × (IsTrue (list_all is_hex_digit l.digits) → (k : ℕ) → k < l.at + l.i → get_or l.octets k 0 ≡ hex_octet_at l.digits k)
