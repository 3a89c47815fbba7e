use Rattle.{
  std.proofs.Common.{◌≡◌, ℕ, ◌+◌, ◌*◌, ◌/◌, ◌%◌, ◌^◌, ◌<◌, length, get_or, pos, w8},
  std.specs.Int.cast_signed,
  interleave.specs.ColumnPositions.coded_bit_number_in_column,
}
use Rattle.interleave.proofs.gathering.write_columns.Given as goal

-- the first s columns of the group are written; the columns before the group are unchanged
abbrev pub invariant-loop-s : goal.invariant-loop-s
invariant-loop-s l =
    (length l.soft ≡ 456)
    × ((i r : ℕ) → i < l.s → r < 8 →
    get_or l.soft (coded_bit_number_in_column (8 * l.group + i) r) (pos 0) ≡ cast_signed w8 (get_or l.columns i 0 / 256 ^ r % 256))
    × ((q r : ℕ) → q < 8 * l.group → r < 8 →
    get_or l.soft (coded_bit_number_in_column q r) (pos 0) ≡ get_or l.initial.soft (coded_bit_number_in_column q r) (pos 0))
