use Rattle.{
  std.proofs.Common.{ap, ap₂, ◌∙◌},
  trellis_decode.{specs.AcsLanes.metrics_of_lanes, proofs.AcsSteps.{candidates_of_bit_0, step_metric}},
  lanes.specs.Lanes.lane,
}
use Rattle.trellis_decode.proofs.acs_step.tail_step.Goals as goal

pub returns-clause-each : goal.returns-clause-each
returns-clause-each c pair has s lt =
    ap (λ metrics. lane metrics s)
    (ap₂ metrics_of_lanes c.interleave_first_lanes.ensures.each c.interleave_last_lanes.ensures.each)
    ∙ step_metric c.add_branch_metrics-low.result.lanes c.subtract_branch_metrics-high.result.lanes s lt
    ∙ candidates_of_bit_0 c.args.metrics_after.even_states.lanes c.args.metrics_after.odd_states.lanes _ pair has _ _
    c.add_branch_metrics-low.ensures.each c.subtract_branch_metrics-high.ensures.each s lt
