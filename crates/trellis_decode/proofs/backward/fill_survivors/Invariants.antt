use Rattle.trellis_decode.{specs.AcsLanes.{AreInt16, path_metric}, proofs.FilledMaps.AreFilled}
use Rattle.trellis_decode.proofs.backward.fill_survivors.Given as goal

abbrev pub invariant-loop-group : goal.invariant-loop-group
invariant-loop-group l = record {
  filled : AreFilled l.group l.survivors l.soft (path_metric l.values);
  even : AreInt16 l.values.even_states.lanes;
  odd : AreInt16 l.values.odd_states.lanes;
}
