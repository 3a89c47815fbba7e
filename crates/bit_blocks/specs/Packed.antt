-- Coded bits packed eight to an octet (this project's own layout).
use Rattle.std.specs.Prelude.{ℕ, ◌≡◌, ◌<◌, ◌+◌, ◌*◌, ◌/◌, ◌%◌, ◌^◌, List, slice_index}

-- the position of a coded bit in its packed octet. The eight coded bits of an octet are numbered 0 to 7 in encoder order and form four
-- pairs: octet bits 0 to 3 hold the first bits of the pairs, and octet bits 4 to 7 the second bits
abbrev pub packed_bit_index : (coded_bit : ℕ) → ℕ
packed_bit_index r = r / 2 + 4 * (r % 2)

-- the bit of a number at a given index; index 0 is the least significant bit
abbrev pub bit_of : (number place : ℕ) → ℕ
bit_of number i = number / 2 ^ i % 2

-- `octets` holds the coded bits `coded`, packed into `octet_count` octets: eight per octet, each at the position that `packed_bit_index`
-- gives
abbrev pub AreCodedBitsPacked : (octet_count : ℕ) (coded octets : List ℕ) → Type 0
AreCodedBitsPacked n coded octets =
    (t r : ℕ) → t < n → r < 8 → bit_of (slice_index octets t) (packed_bit_index r) ≡ slice_index coded (8 * t + r)
