-- The minimum of 0 and all values is a soft bit if and only if every value is a soft bit.
use Rattle.{
  std.proofs.Common.{◌≡◌, ◌≤ℤ◌, ℤ, pos, List, All, fold, get_or, sym, ap, subst, ⊎_elim, ◌∙◌, w8, FitsSigned},
  std.proofs.{Common.{rules, arith}, lemmas.{Int.{ints, to_z-of_z, fold-int_min_bounds, fold-int_min_reached}, List.take_all}},
  std.{proofs.lemmas.List.{Sums.fold_more, Elements.{All-from_get_or, All-contains, All-more}}, specs.{Int.int_min, Prelude.◌↔◌}},
  um_block.specs.bit_blocks.SoftValues.{AllSoftBits, IsSoftBit},
}
use Rattle.um_c.proofs.soft.are_soft_bits.Goals as goal

abbrev IsInRange : ℤ → Type 0
IsInRange value = value ≤ℤ pos 127

least_value-AllSoftBits : (xs : List ℤ) (least : ℤ) → All IsInRange xs → least ≡ fold int_min (pos 0) xs →
    (IsSoftBit least ↔ AllSoftBits xs)
least_value-AllSoftBits xs least highest is =
    let bounds = fold-int_min_bounds (pos 0) xs least is in (
      λ soft. All-from_get_or IsSoftBit xs (pos 0) (λ k h.
          let above : least ≤ℤ get_or xs k (pos 0) = bounds.1 k (pos 0) h in
          (omega (arith, ints), highest k (pos 0) h)),
      λ all. ⊎_elim (λ zero. subst IsSoftBit (sym zero) (omega (arith, ints), omega (arith, ints)))
          (λ found. All-contains IsSoftBit xs least all found)
          (fold-int_min_reached (pos 0) xs least is),
    )

pub loop-value-preserved : goal.loop-value-preserved
loop-value-preserved c =
    let values = c.args.values.now in
    let i = c.loop-value.value-index in
    let fits : FitsSigned w8 (get_or values i (pos 0)) = search rules in
    let last : IsInRange (get_or values i (pos 0)) = omega (arith, ints) in
    (grind (arith, to_z-of_z, fold_more), All-more IsInRange values i (pos 0) c.loop-value-test.true c.loop-value.invariant.1 last)

pub returns : goal.returns
returns c =
    let values = c.args.values.now in
    let whole_bursts = take_all c.loop-value.value-index values (omega arith) in
    let all = least_value-AllSoftBits values _ (subst (All IsInRange) whole_bursts c.loop-value.invariant.1)
    (c.loop-value.invariant.0 ∙ ap (fold int_min (pos 0)) whole_bursts) in
    (λ yes. all.0 (c.is_soft_bit.ensures.0 yes), λ soft. c.is_soft_bit.ensures.1 (all.1 soft))
