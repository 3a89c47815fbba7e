use Rattle.{
  std.proofs.Common.{◌≡◌, ◌<◌, ◌≤◌, ℕ, ℤ, List, ◌*ℤ◌, length, drop, pos, refl, arith, w16, to_z, of_z, get_or},
  std.proofs.{Common.{ap, ◌+ℤ◌, ◌∙◌}, lemmas.{Int.ints, List.{drop_all, get_or-replicate}}},
  bit_blocks.specs.SoftValues.likelihood,
  training_seq.{
    specs.{Ranges.IsMagnitudeWithin, Sequences.midamble, Sums.{sign_of_bit, soft_bit_at}},
    proofs.Lemmas.{correlation_more, length-midamble, sign_in_row, small_in_row, passed, product_within},
  },
}
use Rattle.training_seq.proofs.correlation.correlate_sums.Goals as goal

start : (total all : ℤ) → total ≡ pos 0 → (total +ℤ all ≡ all) × IsMagnitudeWithin 0 total
start total all e = (omega (arith, ints), (omega (arith, ints)))

pub loop-i-init : goal.loop-i-init
loop-i-init c = (refl, λ tsc h. start _ _ (get_or-replicate 8 tsc (pos 0) (pos 0) (omega arith)))

whole : (total : ℤ) (sums : List ℤ) (bits : List ℕ) (i : ℕ) → length sums ≤ i
    → total +ℤ likelihood (drop i sums) (drop i bits) ≡ likelihood sums bits → total ≡ likelihood sums bits
whole total sums bits i past e =
    let done : total +ℤ pos 0 ≡ likelihood sums bits = rw (drop_all i sums past) at e in
    omega (arith, ints)

pub loop-i-preserved : goal.loop-i-preserved
loop-i-preserved c = (
  c.add_product-totals.ensures.count,
  λ tsc h.
      let i = c.loop-i.i in
      let sums = c.args.sums.now in
      let bits = midamble tsc in
      let value = get_or sums i (pos 0) in
      let sign = sign_of_bit (get_or bits i 0) in
      let here : i < length sums = omega arith in
      let there : i < length bits = omega (arith, length-midamble tsc h) in
      let small : IsMagnitudeWithin 1024 value = c.requires.small i (pos 0) here in
      let near : IsMagnitudeWithin 1 sign = small_in_row tsc i h (omega arith) in
      let before = c.loop-i.invariant.1 tsc h in
      let each = c.add_product-totals.ensures.each tsc h in
      let kept : to_z w16 (of_z w16 value) ≡ value = omega (arith, ints) in
      let row : soft_bit_at c.all_tsc_signs_at.result.now tsc ≡ sign = rw c.all_tsc_signs_at.ensures (sign_in_row tsc i h) in
      let is : soft_bit_at c.add_product-totals.result.lanes tsc ≡ soft_bit_at c.loop-i.totals.lanes tsc +ℤ value *ℤ sign =
      rw (kept, row) at each in
      let product = product_within value sign small near in (
        rw is (correlation_more sums bits i (soft_bit_at c.loop-i.totals.lanes tsc) _ here there before.0),
        (omega (arith, ints, is, product, before.1)),
      ),
)

pub add_product-totals-requires-clause-totals : goal.add_product-totals-requires-clause-totals
add_product-totals-requires-clause-totals c tsc h =
    let before = (c.loop-i.invariant.1 tsc h).1 in
    omega (arith, ints)

pub add_product-totals-requires-clause-signs : goal.add_product-totals-requires-clause-signs
add_product-totals-requires-clause-signs c tsc h =
    rw (c.all_tsc_signs_at.ensures, sign_in_row tsc c.loop-i.i h) (small_in_row tsc c.loop-i.i h (omega arith))

pub returns-clause-within : goal.returns-clause-within
returns-clause-within c =
    let within : (tsc : ℕ) → tsc ≤ 7 → IsMagnitudeWithin 26624 (soft_bit_at c.loop-i.totals.lanes tsc) =
    λ tsc h. let before = (c.loop-i.invariant.1 tsc h).1 in omega (arith, ints) in
    rw (passed c.loop-i.totals.lanes c.loop-i.invariant.0 within) within

pub returns-clause-value : goal.returns-clause-value
returns-clause-value c tsc h =
    let within : (tsc : ℕ) → tsc ≤ 7 → IsMagnitudeWithin 26624 (soft_bit_at c.loop-i.totals.lanes tsc) =
    λ tsc h. let before = (c.loop-i.invariant.1 tsc h).1 in omega (arith, ints) in
    ap (λ l. get_or l tsc (pos 0)) (passed c.loop-i.totals.lanes c.loop-i.invariant.0 within)
    ∙ whole _ c.args.sums.now (midamble tsc) c.loop-i.i (omega arith) (c.loop-i.invariant.1 tsc h).0
