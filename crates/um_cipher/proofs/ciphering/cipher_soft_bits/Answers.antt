use Rattle.{
  bit_blocks.specs.SoftValues.IsSoftBit,
  std.proofs.{Common.{arith, inl, inr, pos, rules, subst, sym}, lemmas.{Bool.cases_eq, Int.to_z-of_z}},
  std.proofs.lemmas.List.{get_or_default, get_or-set_other, get_or-set_same, places},
  um_cipher.proofs.Lemmas.soft_bits_by_places,
}
use Rattle.um_cipher.proofs.ciphering.cipher_soft_bits.Goals as goal

pub returns-clause-value : goal.returns-clause-value
returns-clause-value c =
    soft_bits_by_places c.args.stream.now c.key_bits-key.result c.args.burst.now c.loop-place.ciphered c.key_bits-key.ensures.value
    (omega arith) (omega arith) (omega arith) (λ k h. c.loop-place.invariant.1 k (omega arith))

pub returns-clause-soft : goal.returns-clause-soft
returns-clause-soft c = λ k d lt.
    subst IsSoftBit (sym (get_or_default c.loop-place.ciphered k d (pos 0) lt)) (c.loop-place.invariant.2 k (omega arith))

pub loop-place-preserved : goal.loop-place-preserved
loop-place-preserved c = (
  search (rules, places),
  λ k lt. elim (cases_eq k c.loop-place.place)
      [ inl e ↦ grind (arith, to_z-of_z, get_or-set_same) | inr n ↦ grind (arith, get_or-set_other) ],
  λ k lt. elim (cases_eq k c.loop-place.place)
      [ inl e ↦ grind (arith, to_z-of_z, get_or-set_same) | inr n ↦ grind (arith, get_or-set_other) ],
)
