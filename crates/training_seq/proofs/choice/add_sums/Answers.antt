use Rattle.{
  std.proofs.Common.{◌≡◌, ◌≢◌, ◌<◌, length, pos, refl, arith, below_more, get_or-set_other, get_or-set_same},
  std.proofs.lemmas.{Int.ints, List.{ext_get_or, length-set, Elements.{All-replicate, All-set}}},
  training_seq.{specs.{Ranges.IsMagnitudeWithin, Sums.vector_sum}, proofs.Lemmas.{length-vector_sum, get_or-vector_sum}},
}
use Rattle.training_seq.proofs.choice.add_sums.Goals as goal

pub loop-i-init : goal.loop-i-init
loop-i-init c =
    (refl, λ k h. absurd (omega arith), All-replicate (IsMagnitudeWithin 1024) 26 (pos 0) (omega (arith, ints)))

pub loop-i-preserved : goal.loop-i-preserved
loop-i-preserved c =
    let here : c.loop-i.i < length c.loop-i.sums = omega arith in (
      simp length-set c.loop-i.invariant.0,
      below_more _ _
          (λ k h. let ne : k ≢ c.loop-i.i = omega arith in rw get_or-set_other (c.loop-i.invariant.1 k h))
          (rw get_or-set_same (omega (arith, ints))),
      All-set (IsMagnitudeWithin 1024) _ _ _ (omega (arith, ints)) c.loop-i.invariant.2,
    )

pub sum_of_two-requires-clause-a : goal.sum_of_two-requires-clause-a
sum_of_two-requires-clause-a c =
    let small = c.requires.first c.loop-i.i (pos 0) (omega arith) in (omega (arith, ints, small), omega (arith, ints, small))

pub sum_of_two-requires-clause-b : goal.sum_of_two-requires-clause-b
sum_of_two-requires-clause-b c =
    let small = c.requires.later c.loop-i.i (pos 0) (omega arith) in (omega (arith, ints, small), omega (arith, ints, small))

pub returns-clause-value : goal.returns-clause-value
returns-clause-value c =
    let first = c.args.first.now in
    let later = c.args.later.now in
    let same : length first ≡ length later = omega arith in
    ext_get_or (pos 0) _ _ (omega (arith, length-vector_sum first later same))
    (λ k h. omega (arith, ints, c.loop-i.invariant.1 k (omega arith), get_or-vector_sum first later k same))
