use Rattle.{bit_blocks.specs.SoftValues.count_wrong_bits, conv_code.proofs.Lemmas.AllBits-coded}
use Rattle.um_block.proofs.counting.wrong_coded_bits.Goals as goal

pub count_wrong_bits-requires-clause-bits : goal.count_wrong_bits-requires-clause-bits
count_wrong_bits-requires-clause-bits c = rw c.encode.ensures (AllBits-coded c.args.input.now)

pub returns-clause-value : goal.returns-clause-value
returns-clause-value c = rw c.encode.ensures at c.count_wrong_bits.ensures.value
