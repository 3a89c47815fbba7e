use Rattle.{
  std.proofs.Common.{◌+◌, ◌*◌, drop},
  trellis_decode.specs.{Decisions.HasDecisionsAndMetrics, AcsLanes.{AreInt16, path_metric}},
}
use Rattle.trellis_decode.proofs.trellis.fill_decisions.Given as goal

-- from the current group of four positions to the end, each decision and its loss are those of the Viterbi algorithm
abbrev pub invariant-loop-group : goal.invariant-loop-group
invariant-loop-group l = record {
  decided : HasDecisionsAndMetrics (drop (l.few + 4 * l.group) l.rows) (drop (l.few + 4 * l.group) l.losses) (drop (2 *
      (l.few + 4 * l.group)) l.soft) (path_metric l.values);
  even : AreInt16 l.values.even_states.lanes;
  odd : AreInt16 l.values.odd_states.lanes;
}
