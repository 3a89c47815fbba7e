use Rattle.{std.proofs.Common.arith, conv_code.proofs.Lemmas.{quad_first, quad_second}}
use Rattle.conv_code.proofs.packed.encode_upper_four_bits.Goals as goal

pub returns-clause-first : goal.returns-clause-first
returns-clause-first c i hi = quad_first c.args.straddling_octet i (omega arith) hi

pub returns-clause-second : goal.returns-clause-second
returns-clause-second c i hi = quad_second c.args.straddling_octet i (omega arith) hi
