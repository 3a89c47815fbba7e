use Rattle.{
  bit_blocks.specs.Bits.IsBit,
  std.proofs.{Common.{arith, subst, sym}, lemmas.List.get_or_default},
  um_cipher.proofs.Lemmas.bits_by_places,
}
use Rattle.um_cipher.proofs.ciphering.cipher_bits.Goals as goal

pub returns-clause-value : goal.returns-clause-value
returns-clause-value c =
    bits_by_places c.args.stream.now c.key_bits-key.result c.args.burst.now c.loop-place.ciphered c.key_bits-key.ensures.value
    (omega arith) (omega arith) (omega arith) (λ k h. c.loop-place.invariant.1 k (omega arith))

pub returns-clause-bits : goal.returns-clause-bits
returns-clause-bits c = λ k d lt.
    subst IsBit (sym (get_or_default c.loop-place.ciphered k d 0 lt)) (c.loop-place.invariant.2 k (omega arith))
