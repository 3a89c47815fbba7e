use Rattle.{
  hex.specs.Hex.is_hex_digit,
  std.{proofs.Common.{IsTrue, get_or, length, take, ℕ, ◌*◌, ◌+◌, ◌-◌, ◌<◌, ◌≡◌, ◌≤◌}, specs.List.list_all},
  um_lines.specs.HexPlaces.{are_hex_values, hex_octet_at},
}
use Rattle.um_lines.proofs.hex_digits.decode_by_sixteens.Given as goal

-- each octet written so far has the value of its two digits, and `codes` tells whether all these digits are hexadecimal
abbrev pub invariant-loop-at : goal.invariant-loop-at
invariant-loop-at l =
    (length l.octets ≡ length l.initial.octets)
    × (IsTrue (list_all is_hex_digit l.digits) → (k : ℕ) → k < l.at → get_or l.octets k 0 ≡ hex_octet_at l.digits k)
    × (are_hex_values l.codes.lanes ≡ list_all is_hex_digit (take (2 * l.at) l.digits))
    × (length l.codes.lanes ≡ 16) × (l.at ≤ length l.octets) × (l.last + 16 ≡ length l.octets)

abbrev pub decreases-loop-at : goal.decreases-loop-at
decreases-loop-at l = l.last - l.at
