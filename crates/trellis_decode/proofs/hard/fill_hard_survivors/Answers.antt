use Rattle.{
  std.proofs.{
    Common.{◌≡◌, ◌*◌, ◌+◌, ◌-◌, length, ◌∙◌, arith},
    lemmas.List.{length-set, Elements.{All-drop, All-take}},
  },
  trellis_decode.{
    specs.Hard.{IsHardBit, hard_lane_metrics},
    proofs.{AcsSteps.hard_octets, SurvivorLists.DifferByAtMost-survivors, FilledMaps.{filled-last, filled-more, filled-within}},
  },
}
use Rattle.trellis_decode.proofs.hard.fill_hard_survivors.Goals as goal

pub hard_path_metrics_before_tail-values-requires-clause-hard : goal.hard_path_metrics_before_tail-values-requires-clause-hard
hard_path_metrics_before_tail-values-requires-clause-hard c =
    All-take IsHardBit _ _ (All-drop IsHardBit _ _ c.requires.hard)

pub loop-group-init : goal.loop-group-init
loop-group-init c = record {
  filled = filled-last c.args.soft.now (hard_octets _ c.requires.hard) c.args.survivors.now
      (hard_lane_metrics c.hard_path_metrics_before_tail-values.result.lanes) (length c.args.survivors.now - 1)
      (omega (arith, c.requires.at_least)) c.requires.count c.hard_path_metrics_before_tail-values.ensures.best;
  lanes = c.hard_path_metrics_before_tail-values.ensures.lanes;
}

pub extend_hard_survivors-walk-requires-clause-hard : goal.extend_hard_survivors-walk-requires-clause-hard
extend_hard_survivors-walk-requires-clause-hard c =
    All-take IsHardBit _ _ (All-drop IsHardBit _ _ c.requires.hard)

pub extend_hard_survivors-walk-requires-clause-lanes : goal.extend_hard_survivors-walk-requires-clause-lanes
extend_hard_survivors-walk-requires-clause-lanes c = grind arith

pub extend_hard_survivors-walk-requires-clause-within : goal.extend_hard_survivors-walk-requires-clause-within
extend_hard_survivors-walk-requires-clause-within c =
    filled-within _ (hard_octets _ c.requires.hard) _ _ _ (omega (arith, c.requires.count)) c.loop-group.invariant.filled

pub extend_hard_survivors-walk-requires-clause-near : goal.extend_hard_survivors-walk-requires-clause-near
extend_hard_survivors-walk-requires-clause-near c =
    let same : length c.loop-group.survivors ≡ length c.args.survivors.now = c.loop-group.auto.survivors
    ∙ length-set c.args.survivors.now (length c.args.survivors.now - 1) _ in
    DifferByAtMost-survivors c.loop-group.values.lanes c.args.soft.now c.loop-group.group c.loop-group.survivors
    (hard_octets _ c.requires.hard) (omega (arith, same, c.requires.count)) c.loop-group.invariant.filled.best

pub loop-group-preserved : goal.loop-group-preserved
loop-group-preserved c =
    let before = c.loop-group.group - 1 in
    let eight : 8 * before + 8 - 8 * before ≡ 8 = omega arith in
    let same : length c.loop-group.survivors ≡ length c.args.survivors.now = c.loop-group.auto.survivors
    ∙ length-set c.args.survivors.now (length c.args.survivors.now - 1) _ in
    record {
      filled = filled-more c.args.soft.now (hard_octets _ c.requires.hard) c.loop-group.survivors before c.loop-group.group (omega arith)
          (omega (arith, same, c.loop-group.auto.group, c.requires.at_least)) (omega (arith, same, c.requires.count))
          (rw eight at c.extend_hard_survivors-walk.ensures.walk) c.extend_hard_survivors-walk.ensures.within.lower_bound
          c.loop-group.invariant.filled;
      lanes = c.extend_hard_survivors-walk.ensures.lanes;
    }

pub returns-clause-best : goal.returns-clause-best
returns-clause-best c = let none : c.loop-group.group ≡ 0 = omega arith in rw none at c.loop-group.invariant.filled.best

pub returns-clause-maps : goal.returns-clause-maps
returns-clause-maps c = let none : c.loop-group.group ≡ 0 = omega arith in rw none at c.loop-group.invariant.filled.maps
