use Rattle.{
  std.proofs.Common.{◌≡◌, ◌≢◌, ◌<◌, length, pos, refl, arith, below_more, get_or-set_other, get_or-set_same},
  std.proofs.lemmas.{Int.ints, List.{ext_get_or, length-set, Elements.{All-replicate, All-set}}},
  training_seq.{specs.{Ranges.IsMagnitudeWithin, Sums.vector_sum}, proofs.Lemmas.{length-vector_sum, get_or-vector_sum}},
}
use Rattle.training_seq.proofs.choice.add_midambles.Goals as goal

pub loop-i-init : goal.loop-i-init
loop-i-init c =
    (refl, λ k h. absurd (omega arith), All-replicate (IsMagnitudeWithin 512) 26 (pos 0) (omega (arith, ints)))

pub loop-i-preserved : goal.loop-i-preserved
loop-i-preserved c =
    let here : c.loop-i.i < length c.loop-i.sums = omega arith in (
      simp length-set c.loop-i.invariant.0,
      below_more _ _
          (λ k h. let ne : k ≢ c.loop-i.i = omega arith in rw get_or-set_other (c.loop-i.invariant.1 k h))
          (rw get_or-set_same (omega (arith, ints))),
      All-set (IsMagnitudeWithin 512) _ _ _ (omega (arith, ints)) c.loop-i.invariant.2,
    )

pub returns-clause-value : goal.returns-clause-value
returns-clause-value c =
    let a = c.args.a.now in
    let b = c.args.b.now in
    let e = c.args.c.now in
    let d = c.args.d.now in
    let ab : length a ≡ length b = omega arith in
    let abe : length (vector_sum a b) ≡ length e = omega (arith, length-vector_sum a b ab) in
    let abed : length (vector_sum (vector_sum a b) e) ≡ length d =
    omega (arith, length-vector_sum a b ab, length-vector_sum (vector_sum a b) e abe) in
    ext_get_or (pos 0) _ _
    (omega (
      arith,
      length-vector_sum a b ab,
      length-vector_sum (vector_sum a b) e abe,
      length-vector_sum (vector_sum (vector_sum a b) e) d abed,
    ))
    (λ k h. omega (
      arith,
      ints,
      c.loop-i.invariant.1 k (omega arith),
      get_or-vector_sum a b k ab,
      get_or-vector_sum (vector_sum a b) e k abe,
      get_or-vector_sum (vector_sum (vector_sum a b) e) d k abed,
    ))
