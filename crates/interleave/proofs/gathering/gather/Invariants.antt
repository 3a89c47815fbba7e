use Rattle.{
  std.{proofs.Common.{◌≡◌, ℕ, ◌*◌, ◌%◌, ◌<◌, [], length, get_or, pos, w8}, specs.Int.cast_signed},
  interleave.specs.ColumnPositions.{coded_bit_number_in_column, burst_position_of_column_bit},
}
use Rattle.interleave.proofs.gathering.gather.Given as goal

abbrev pub invariant-loop-group : goal.invariant-loop-group
invariant-loop-group l =
    (length l.soft ≡ 456)
    × ((q r : ℕ) → q < 8 * l.group → r < 8 →
    get_or l.soft (coded_bit_number_in_column q r) (pos 0) ≡ cast_signed w8
    (get_or (get_or l.octets (r % 4) []) (burst_position_of_column_bit q r) 0))
