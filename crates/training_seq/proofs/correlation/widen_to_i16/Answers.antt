use Rattle.{
  std.proofs.{Common.{◌<◌, pos, refl, arith}, lemmas.{Int.ints, List.{ext_get_or, Elements.All-replicate}}},
  training_seq.specs.Ranges.IsMagnitudeWithin,
}
use Rattle.training_seq.proofs.correlation.widen_to_i16.Goals as goal

pub loop-i-init : goal.loop-i-init
loop-i-init c =
    (refl, λ k h. absurd (omega arith), All-replicate (IsMagnitudeWithin 1024) 26 (pos 0) (omega (arith, ints)))

pub returns-clause-value : goal.returns-clause-value
returns-clause-value c =
    ext_get_or (pos 0) _ _ (omega arith)
    (λ k h. let written : k < c.loop-i.i = omega arith in c.loop-i.invariant.1 k written)
