use Rattle.{std.proofs.Common.arith, interleave.specs.ColumnPositions.coded_bit_number_in_column}
use Rattle.interleave.proofs.gathering.write_column.Goals as goal

pub returns-clause-updated_bits : goal.returns-clause-updated_bits
unfolding coded_bit_number_in_column
returns-clause-updated_bits c r h = omega arith

pub returns-clause-unchanged_bits : goal.returns-clause-unchanged_bits
unfolding coded_bit_number_in_column
returns-clause-unchanged_bits c p r hp other hr = grind arith
