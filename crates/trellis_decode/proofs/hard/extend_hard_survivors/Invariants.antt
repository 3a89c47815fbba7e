use Rattle.{
  std.proofs.Common.{◌≡◌, ◌+◌, ◌*◌, ◌-◌, drop, length},
  trellis_decode.specs.{Hard.{AreInt8, DifferByAtMost, hard_lane_metrics}, SurvivorPaths.{AreMetricsWithin, AreSurvivors}},
}
use Rattle.trellis_decode.proofs.hard.extend_hard_survivors.Given as goal

-- `walk` holds the survivors over the positions from k on
abbrev pub invariant-loop-k : goal.invariant-loop-k
invariant-loop-k l = record {
  walk : AreSurvivors (hard_lane_metrics l.fn.after.lanes) (hard_lane_metrics l.walk.values.lanes) l.walk.survivor_map
      (drop (2 * l.k) l.soft);
  within : AreMetricsWithin (58368 + 256 * (4 - l.k)) (hard_lane_metrics l.walk.values.lanes);
  near : DifferByAtMost (8 + 2 * (4 - l.k)) l.walk.values.lanes;
  lanes : AreInt8 l.walk.values.lanes;
  count : length l.walk.survivor_map ≡ 16;
}
