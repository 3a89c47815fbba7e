use Rattle.{
  std.proofs.Common.{◌≡◌, ◌+◌, ◌*◌, ◌-◌, drop, take, length},
  trellis_decode.specs.{AcsLanes.{AreInt16, path_metric}, SurvivorPaths.{AreMetricsWithin, AreSurvivors}},
}
use Rattle.trellis_decode.proofs.backward.extend_survivors.Given as goal

-- `walk` holds the survivors over the positions from k on
abbrev pub invariant-loop-k : goal.invariant-loop-k
invariant-loop-k l = record {
  walk : AreSurvivors (path_metric l.fn.after) (path_metric l.walk.values) l.walk.survivor_map
      (take (2 * (l.places - l.k)) (drop (2 * l.k) l.soft));
  within : AreMetricsWithin (58368 + 256 * (l.places - l.k)) (path_metric l.walk.values);
  even : AreInt16 l.walk.values.even_states.lanes;
  odd : AreInt16 l.walk.values.odd_states.lanes;
  count : length l.walk.survivor_map ≡ 16;
}
