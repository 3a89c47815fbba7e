-- The eight coded bits of four consecutive information bits, which depend on these bits and on the four bits before them.
use Rattle.std.specs.Prelude.{ℕ, ◌≡◌, ◌<◌, ◌+◌, ◌*◌, ◌%◌, List, slice_index}
use Rattle.bit_blocks.specs.Packed.{bit_of}

-- `octet` holds the coded bits of information bits `4 * index` to `4 * index + 3`; `bits` is eight earlier bits followed by the encoder
-- input
pub record HoldsFourCodedPairs (bits : List ℕ) (octet index : ℕ) : Type 0 where
  pub first_bits : (i : ℕ) → i < 4 → bit_of octet i ≡
      (slice_index bits (4 * index + 8 + i) + slice_index bits (4 * index + 5 + i) + slice_index bits (4 * index + 4 + i)) % 2
  pub second_bits : (i : ℕ) → i < 4 → bit_of octet (i + 4) ≡
      (slice_index bits (4 * index + 8 + i) + slice_index bits (4 * index + 7 + i) + slice_index bits (4 * index + 5 + i) + slice_index
      bits
      (4 * index + 4 + i)) % 2
