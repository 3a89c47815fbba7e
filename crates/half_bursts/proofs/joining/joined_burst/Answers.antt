use Rattle.{
  bit_blocks.specs.SoftValues.IsSoftBit,
  half_bursts.{proofs.Loops.set-more, specs.Halves.joined_value},
  std.proofs.Common.{Bool, List, ap, arith, false, get_or, of_z, pos, subst, sym, to_z, true, w8, ℕ, ℤ},
  std.proofs.Common.{◌<◌, ◌%◌, ◌==◌, ◌∙◌, ◌≡◌, if◌then◌else◌},
  std.proofs.lemmas.{Int.ints, List.{ext_get_or, get_or_default, length-set}},
  std.proofs.lemmas.List.FromFn.{get_or-map-range_with_len, length-map-range_with_len},
}
use Rattle.half_bursts.proofs.joining.joined_burst.Goals as goal

-- a soft bit fits eight bits
kept : (x v : ℤ) → v ≡ to_z w8 (of_z w8 x) → IsSoftBit x → (to_z w8 (of_z w8 v) ≡ x) × IsSoftBit (to_z w8 (of_z w8 v))
kept x v is soft =
    let same : to_z w8 (of_z w8 x) ≡ x = omega (arith, ints, soft) in
    let again : to_z w8 (of_z w8 v) ≡ x = ap (λ y. to_z w8 (of_z w8 y)) (is ∙ same) ∙ same in
    (again, subst IsSoftBit (sym again) soft)

chosen : (odd even : List ℤ) (p : ℕ) (b : Bool) (v : ℤ) →
    v ≡ (if b then to_z w8 (of_z w8 (get_or odd p (pos 0))) else to_z w8 (of_z w8 (get_or even p (pos 0)))) →
    IsSoftBit (get_or odd p (pos 0)) → IsSoftBit (get_or even p (pos 0)) →
    (to_z w8 (of_z w8 v) ≡ get_or (if b then odd else even) p (pos 0)) × IsSoftBit (to_z w8 (of_z w8 v))
chosen odd even p true v is ho he = kept (get_or odd p (pos 0)) v is ho
chosen odd even p false v is ho he = kept (get_or even p (pos 0)) v is he

pub loop-p-preserved : goal.loop-p-preserved
loop-p-preserved c =
    let p = c.loop-p.p in
    let odd = c.args.odd.now in
    let even = c.args.even.now in
    let value = to_z w8 (of_z w8 c.choose.result) in
    let below : p < 148 = omega arith in (
      length-set c.loop-p.joined p value ∙ c.loop-p.invariant.0,
      set-more (λ k v. (v ≡ joined_value (pos 0) odd even k) × IsSoftBit v) c.loop-p.joined p value (pos 0)
          (omega (arith, c.loop-p.invariant.0)) c.loop-p.invariant.1
          (chosen odd even p (p % 2 == 1) c.choose.result c.choose.ensures (c.requires.odd p (pos 0) (omega arith))
          (c.requires.even p (pos 0) (omega arith))),
    )

pub returns-clause-value : goal.returns-clause-value
returns-clause-value c =
    let value = joined_value (pos 0) c.args.odd.now c.args.even.now in
    let long = length-map-range_with_len value 0 148 in
    ext_get_or (pos 0) _ _ (omega arith) (λ k h. (c.loop-p.invariant.1 k (omega arith)).0
    ∙ sym (get_or-map-range_with_len value 0 148 k k (pos 0) (omega arith) (omega arith)))

pub returns-clause-soft : goal.returns-clause-soft
returns-clause-soft c = λ k d lt.
    subst IsSoftBit (sym (get_or_default c.loop-p.joined k d (pos 0) lt)) (c.loop-p.invariant.1 k (omega arith)).1
