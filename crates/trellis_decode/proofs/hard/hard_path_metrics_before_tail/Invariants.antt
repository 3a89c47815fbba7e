use Rattle.trellis_decode.{specs.Hard.{AreInt8, hard_lane_metrics}, proofs.FilledMaps.AreTailMetrics}
use Rattle.trellis_decode.proofs.hard.hard_path_metrics_before_tail.Given as goal

abbrev pub invariant-loop-k : goal.invariant-loop-k
invariant-loop-k l = record {
  best : AreTailMetrics l.k l.soft (hard_lane_metrics l.values.lanes);
  lanes : AreInt8 l.values.lanes;
}
