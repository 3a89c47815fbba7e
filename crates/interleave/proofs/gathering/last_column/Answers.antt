use Rattle.{std.proofs.Common.refl, interleave.specs.ColumnPositions.burst_position_of_column_bit, lanes.proofs.Lanes.same_below}
use Rattle.interleave.proofs.gathering.last_column.Goals as goal

pub returns : goal.returns
unfolding burst_position_of_column_bit
returns c = same_below _ _ refl
