use Rattle.trellis_decode.{specs.AcsLanes.{AreInt16, path_metric}, proofs.FilledMaps.AreTailMetrics}
use Rattle.trellis_decode.proofs.backward.path_metrics_before_tail.Given as goal

abbrev pub invariant-loop-k : goal.invariant-loop-k
invariant-loop-k l = record {
  best : AreTailMetrics l.k l.soft (path_metric l.values);
  even : AreInt16 l.values.even_states.lanes;
  odd : AreInt16 l.values.odd_states.lanes;
}
