-- The positions of the digits of each octet in a list of hexadecimal digits (used inside this crate).
use Rattle.std.specs.Prelude.{ℕ, ◌≡◌, ◌+◌, ◌*◌, ◌/◌, ◌%◌, Bool, List, nat_lt, slice_index}
use Rattle.std.specs.List.{list_all}
use Rattle.hex.specs.Hex.{lower_digits}
use Rattle.um_lines.specs.Fields.{digit_value}

-- the octet with this index that the hexadecimal digits represent, two digits for each octet
abbrev pub hex_octet_at : (digits : List ℕ) (index : ℕ) → ℕ
hex_octet_at digits k = 16 * digit_value (slice_index digits (2 * k)) + digit_value (slice_index digits (2 * k + 1))

-- `digits` holds, at indices `2 * index` and `2 * index + 1`, the two lowercase hexadecimal digits of the octet with this index in `octets`
abbrev pub HasDigitsOfOctet : (octets digits : List ℕ) (index : ℕ) → Type 0
HasDigitsOfOctet octets digits k =
    (slice_index digits (2 * k) ≡ slice_index lower_digits (slice_index octets k / 16))
    × (slice_index digits (2 * k + 1) ≡ slice_index lower_digits (slice_index octets k % 16))

-- whether every value is at most 15, as the value of a hexadecimal digit is
abbrev pub are_hex_values : (values : List ℕ) → Bool
are_hex_values values = list_all (λ value. nat_lt value 16) values
