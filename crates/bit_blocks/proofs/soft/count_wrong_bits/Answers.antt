use Rattle.{std.proofs.Common.{◌/◌, length}, bit_blocks.proofs.Lemmas.count_wrong_bits-parts}
use Rattle.bit_blocks.proofs.soft.count_wrong_bits.Goals as goal

pub returns-clause-value : goal.returns-clause-value
returns-clause-value c = cc (count_wrong_bits-parts (length c.args.soft.now / 2) c.args.soft.now c.args.bits.now)
