use Rattle.{
  std.{proofs.{Common.{arith, map, ap, ◌∙◌, w8, w16}, lemmas.List.take_all}, specs.Int.{cast_signed, cast_unsigned}},
  trellis_decode.proofs.AcsSteps.{widen_to_i16-fits, widen_to_i16-same},
}
use Rattle.trellis_decode.proofs.branch_metrics.widen_to_i16.Goals as goal

pub overflow_cast-result : goal.overflow_cast-result
overflow_cast-result c =
    rw (take_all 8 c.args.soft.now (omega arith)) (widen_to_i16-fits c.args.soft.now c.requires.octets)

pub returns : goal.returns
returns c =
    ap (λ s. map (cast_signed w16) (map (λ a. cast_unsigned w16 (cast_signed w8 a)) (map (cast_unsigned w8) s)))
    (take_all 8 _ (omega (arith, c.requires.count)))
    ∙ widen_to_i16-same _ c.requires.octets
