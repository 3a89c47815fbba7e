use Rattle.{
  std.proofs.Common.{ap, if◌then◌else◌},
  trellis_decode.{
    specs.{AcsLanes.lane_of_state, Hard.{lane_after_bit_0, lane_after_bit_1}},
    proofs.{AcsSteps.{IsDecision-hard, lane_of_state-inside, next_lane-state}, SurvivorLists.{AreSurvivors-more, AreMetricsWithin-more}},
    proofs.{HardLanes.{DifferByAtMost-more, IsHardStep, loss-fits, loss-sign}, hard.HardSurvivors.step.Goals.After-larger_lanes-values},
  },
}
use Rattle.trellis_decode.proofs.hard.HardSurvivors.step.Goals as goal

step : (c : After-larger_lanes-values) → IsHardStep c.args.self.values.lanes c.args.branch_metrics.lanes
    c.bit_0_candidates-zero.result.lanes c.bit_1_candidates-one.result.lanes c.larger_lanes-values.result.lanes
step c = record {
  zero = c.bit_0_candidates-zero.ensures.each;
  one = c.bit_1_candidates-one.ensures.each;
  best = c.larger_lanes-values.ensures.each;
}

pub subtract_hard_lanes-losses-requires-clause-fits : goal.subtract_hard_lanes-losses-requires-clause-fits
subtract_hard_lanes-losses-requires-clause-fits c =
    loss-fits _ _ _ _ _ c.requires.branch_metrics
    (step (goal.at.subtract_hard_lanes-losses-requires-clause-fits c).After-larger_lanes-values) c.requires.near

pub returns-clause-walk : goal.returns-clause-walk
returns-clause-walk c pair has after soft =
    let is = step (goal.at.returns-clause-walk c).After-larger_lanes-values in
    AreSurvivors-more after _ _ pair soft _ _ _ has.count (IsDecision-hard _ _ pair has _ _ _ is)
    (λ s lt.
    let k = lane_of_state s in
    let sign = loss-sign _ _ _ _ _ c.requires.branch_metrics is c.subtract_hard_lanes-losses.result.lanes
    c.subtract_hard_lanes-losses.ensures.each k (lane_of_state-inside s lt) in
    cc (
      c.extend_survivor_map_by_metrics.ensures.each k (lane_of_state-inside s lt),
      ap (λ t. if t then lane_after_bit_1 k else lane_after_bit_0 k) sign,
      next_lane-state s lt _,
    ))

pub returns-clause-within : goal.returns-clause-within
returns-clause-within c pair has octets most =
    AreMetricsWithin-more _ _ pair _ _ has.count octets
    (IsDecision-hard _ _ pair has _ _ _ (step (goal.at.returns-clause-within c).After-larger_lanes-values))

pub returns-clause-near : goal.returns-clause-near
returns-clause-near c =
    DifferByAtMost-more _ _ _ _ _ c.requires.branch_metrics (step (goal.at.returns-clause-near c).After-larger_lanes-values)
