-- For each value of the bit, the comparison is computed for all 256 values of a soft bit.
use Rattle.{
  bit_blocks.{proofs.Lemmas.{at_passes_below, passes_below}, specs.SoftValues.is_wrong_bit},
  std.{specs.Int.Bits.bit_xor, proofs.Common.{Bool, ap, arith, false, of_z, pos, refl, suc, to_z, true, w8, zero, ℕ, ◌-ℤ◌}},
  std.proofs.{Common.{◌<◌, ◌∙◌, ◌≡◌, ◌≤◌}, Math.Facts.Fits-of_z, lemmas.Int.to_z-of_z},
}
use lib.Signed.{lt_z}
use Rattle.bit_blocks.proofs.soft.is_wrong_bit.Goals as goal

abbrev found : ℕ → ℕ → Bool
found bit n =
    let one = to_z w8 bit in
    lt_z (to_z w8 (bit_xor n (of_z w8 (pos 0 -ℤ to_z w8 (of_z w8 one))))) (to_z w8 (of_z w8 (pos 1 -ℤ to_z w8 (of_z w8 one))))

abbrev agree : Bool → Bool → Bool
agree true y = y
agree false true = false
agree false false = true

agreed : (x y : Bool) → agree x y ≡ true → x ≡ y
agreed x y h = grind arith

found_wrong : (bit n : ℕ) → bit ≤ 1 → n < 256 → found bit n ≡ is_wrong_bit (to_z w8 n) bit
unfolding passes_below
found_wrong zero n h lt = agreed _ _ (at_passes_below (λ k. agree (found 0 k) (is_wrong_bit (to_z w8 k) 0)) 256 refl n lt)
found_wrong (suc zero) n h lt = agreed _ _ (at_passes_below (λ k. agree (found 1 k) (is_wrong_bit (to_z w8 k) 1)) 256 refl n lt)
found_wrong (suc (suc bit)) n h lt = absurd (omega arith)

pub returns : goal.returns
returns c =
    let number = Fits-of_z c.ranges.value in
    rw (c.cast_signed.ensures, c.cast_signed-2.ensures)
    (found_wrong c.args.bit (of_z w8 c.args.value) c.requires number.fits
    ∙ ap (λ value. is_wrong_bit value c.args.bit) (to_z-of_z w8 c.args.value c.ranges.value))
