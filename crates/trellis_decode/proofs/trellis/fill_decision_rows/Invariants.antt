use Rattle.{
  std.proofs.Common.{◌+◌, ◌*◌, drop},
  trellis_decode.specs.{Decisions.HasDecisionsAndMetrics, AcsLanes.{AreInt16, path_metric}},
}
use Rattle.trellis_decode.proofs.trellis.fill_decision_rows.Given as goal

-- from position k on, the decision rows and losses are those of the survivors
abbrev pub invariant-loop-k : goal.invariant-loop-k
invariant-loop-k l = record {
  decided : HasDecisionsAndMetrics (drop (l.first + l.k) l.rows) (drop (l.first + l.k) l.losses) (drop (2 * (l.first + l.k)) l.soft)
      (path_metric l.values);
  even : AreInt16 l.values.even_states.lanes;
  odd : AreInt16 l.values.odd_states.lanes;
}
