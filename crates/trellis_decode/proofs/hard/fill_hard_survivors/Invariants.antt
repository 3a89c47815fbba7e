use Rattle.trellis_decode.{specs.Hard.{AreInt8, hard_lane_metrics}, proofs.FilledMaps.AreFilled}
use Rattle.trellis_decode.proofs.hard.fill_hard_survivors.Given as goal

abbrev pub invariant-loop-group : goal.invariant-loop-group
invariant-loop-group l = record {
  filled : AreFilled l.group l.survivors l.soft (hard_lane_metrics l.values.lanes);
  lanes : AreInt8 l.values.lanes;
}
