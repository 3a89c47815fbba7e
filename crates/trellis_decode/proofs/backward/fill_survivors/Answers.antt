-- Induction from the tail to the front: each map extends the survivors by four positions, and the path metrics stay in bounds.
use Rattle.{
  std.proofs.{Common.{◌≡◌, ◌*◌, ◌+◌, ◌-◌, drop, length, ◌∙◌, arith}, lemmas.List.{length-set, take-take}},
  trellis_decode.{specs.AcsLanes.path_metric, proofs.FilledMaps.{filled-last, filled-more, filled-within}},
}
use Rattle.trellis_decode.proofs.backward.fill_survivors.Goals as goal

pub loop-group-init : goal.loop-group-init
loop-group-init c = record {
  filled = filled-last c.args.soft.now c.requires.octets c.args.survivors.now (path_metric c.path_metrics_before_tail-values.result)
      (length c.args.survivors.now - 1) (omega
      (arith, c.requires.at_least)) c.requires.count c.path_metrics_before_tail-values.ensures.best;
  even = c.path_metrics_before_tail-values.ensures.even;
  odd = c.path_metrics_before_tail-values.ensures.odd;
}

pub extend_survivors-walk-requires-clause-within : goal.extend_survivors-walk-requires-clause-within
extend_survivors-walk-requires-clause-within c =
    filled-within _ c.requires.octets _ _ _ (omega (arith, c.requires.count, c.requires.at_most)) c.loop-group.invariant.filled

pub loop-group-preserved : goal.loop-group-preserved
loop-group-preserved c =
    let before = c.loop-group.group - 1 in
    let eight : 8 * before + 8 - 8 * before ≡ 8 = omega arith in
    let same : length c.loop-group.survivors ≡ length c.args.survivors.now = c.loop-group.auto.survivors
    ∙ length-set c.args.survivors.now (length c.args.survivors.now - 1) _ in
    record {
      filled = filled-more c.args.soft.now c.requires.octets c.loop-group.survivors before c.loop-group.group (omega arith)
          (omega (arith, same, c.loop-group.auto.group, c.requires.at_least)) (omega (arith, same, c.requires.count))
          (rw (eight, take-take 8 8 (drop (8 * before) c.args.soft.now) (omega arith)) at c.extend_survivors-walk.ensures.walk)
          c.extend_survivors-walk.ensures.within.lower_bound c.loop-group.invariant.filled;
      even = c.extend_survivors-walk.ensures.even;
      odd = c.extend_survivors-walk.ensures.odd;
    }

pub returns-clause-best : goal.returns-clause-best
returns-clause-best c = let none : c.loop-group.group ≡ 0 = omega arith in rw none at c.loop-group.invariant.filled.best

pub returns-clause-within : goal.returns-clause-within
returns-clause-within c =
    filled-within _ c.requires.octets _ _ _ (omega (arith, c.requires.count, c.requires.at_most)) c.loop-group.invariant.filled

pub returns-clause-maps : goal.returns-clause-maps
returns-clause-maps c = let none : c.loop-group.group ≡ 0 = omega arith in rw none at c.loop-group.invariant.filled.maps
