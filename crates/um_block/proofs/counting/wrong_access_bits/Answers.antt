use Rattle.conv_code.proofs.Lemmas.{AllBits-coded}
use Rattle.um_block.proofs.counting.wrong_access_bits.Goals as goal

pub count_wrong_bits-requires-clause-bits : goal.count_wrong_bits-requires-clause-bits
count_wrong_bits-requires-clause-bits c = rw c.encode.ensures (AllBits-coded c.args.input.now)
