use Rattle.{
  std.proofs.Common.{arith, refl, replicate},
  bit_blocks.proofs.Lemmas.{AllBits-table, xor_bits-zeros},
  fire_code.proofs.Lemmas.{rach_word, one_rach_crc},
}
use Rattle.fire_code.proofs.rach.rach_parity.Goals as goal

pub returns-clause-with_bsic : goal.returns-clause-with_bsic
returns-clause-with_bsic c b count bits =
    rw (← c.as_slice.ensures.value)
    (rach_word _ _ b c.as_slice.ensures.count c.as_slice.ensures.bits (assumption) count bits)

pub returns-clause-only_with_bsic : goal.returns-clause-only_with_bsic
returns-clause-only_with_bsic c p b word =
    one_rach_crc c.args.d.now p _ b (rw c.as_slice.ensures.value at c.as_slice.ensures.count) word
    (returns-clause-with_bsic c b word.bsic_bit_count word.bsic_bits)

pub returns-clause-word : goal.returns-clause-word
returns-clause-word c =
    rw (← xor_bits-zeros c.crc.result 6 c.crc.ensures.bits c.crc.ensures.count)
    (returns-clause-with_bsic c (replicate 6 0) (omega arith) (AllBits-table (replicate 6 0) refl))

pub returns-clause-only : goal.returns-clause-only
returns-clause-only c p word =
    one_rach_crc c.args.d.now p _ _ (rw c.as_slice.ensures.value at c.as_slice.ensures.count) word (returns-clause-word c)
