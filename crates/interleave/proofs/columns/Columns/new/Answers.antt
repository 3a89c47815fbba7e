use Rattle.interleave.proofs.PackedColumns.{AreColumnsOfCodedBits-repeat_columns}
use Rattle.interleave.proofs.columns.Columns.new.Goals as goal

pub returns : goal.returns
returns c coded are =
    AreColumnsOfCodedBits-repeat_columns _ _ _ _ are c.columns_of_packed.ensures.each
    c.repeat_columns.ensures.front c.repeat_columns.ensures.back
