use Rattle.{std.proofs.Common.◌∙◌, interleave.proofs.PackedColumns.{put_chunk-whole, interleave_lanes-coded_bits}}
use Rattle.interleave.proofs.columns.Columns.write_32_positions.Goals as goal

pub returns : goal.returns
returns c coded i are hi =
    put_chunk-whole _ _ i c.requires.count c.interleave_lanes.ensures.count hi
    ∙ c.interleave_lanes.ensures.each i hi
    ∙ interleave_lanes-coded_bits coded c.sixteen_alternate_bits.result _ _ _ i c.sixteen_alternate_bits.ensures.count hi
    (λ p. c.sixteen_alternate_bits.ensures.each _ p are) (λ p. c.sixteen_alternate_bits-2.ensures.each _ p are)
