use Rattle.interleave.proofs.PackedColumns.{length-bit_lanes, bit_lane}
use Rattle.interleave.proofs.columns.bit_of_each_octet.Goals as goal

pub returns-clause-count : goal.returns-clause-count
returns-clause-count c = length-bit_lanes _ _ c.requires.count

pub returns-clause-each : goal.returns-clause-each
returns-clause-each c = bit_lane _ _ c.requires.count
