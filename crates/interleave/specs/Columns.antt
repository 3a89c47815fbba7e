-- The coded bits of a block packed into octets, one octet for each column (this project's own layout).
use Rattle.std.specs.Prelude.{ℕ, ◌≡◌, ◌<◌, List, slice_index}
use Rattle.bit_blocks.specs.Packed.{bit_of, packed_bit_index}
use Rattle.interleave.specs.ColumnPositions.{coded_bit_number_in_column}

-- each of the first 121 octets of `columns` holds the eight bits of one column of `coded`: columns 0 to 56, then columns 0 to 63, where
-- columns 57 to 63 repeat columns 0 to 6
pub record AreColumnsOfCodedBits (coded columns : List ℕ) : Type 0 where
  pub each_bit : (q r : ℕ) → q < 121 → r < 8 → bit_of (slice_index columns q) (packed_bit_index r) ≡
      slice_index coded (coded_bit_number_in_column q r)
