use Rattle.{
  std.proofs.{Common.{arith, rules, ◌∙◌, w32, FitsSigned}, lemmas.Int.to_z-of_z},
  trellis_decode.{
    specs.{Hard.hard_lane_metrics, Trellis.IsSurvivor},
    proofs.{Viterbi.{IsMostLikely-best, likelihood-best}, hard.decode_hard.Goals.After-metric_of_state_0},
  },
  lanes.specs.Lanes.lane,
}
use Rattle.trellis_decode.proofs.hard.decode_hard.Goals as goal

best : (c : After-metric_of_state_0) →
    IsSurvivor 0 c.trace_back_survivors.new.u c.args.soft.now (lane (hard_lane_metrics c.fill_hard_survivors-values.result.lanes) 0)
best c = rw c.trace_back_survivors.ensures (c.fill_hard_survivors-values.ensures.best 0 (omega arith))

pub returns-clause-best : goal.returns-clause-best
returns-clause-best c =
    IsMostLikely-best c.args.soft.now c.trace_back_survivors.new.u _ (omega arith) (omega (arith, c.requires.count))
    (best c)

pub returns-clause-value : goal.returns-clause-value
returns-clause-value c =
    let fits : FitsSigned w32 c.metric_of_state_0.result = search rules in
    to_z-of_z w32 c.metric_of_state_0.result fits ∙ c.metric_of_state_0.ensures ∙ likelihood-best _ _ _ (best c)
