use Rattle.{
  std.proofs.Common.{ap, ap₂, int_lt, if◌then◌else◌, negsuc, pos, ◌∙◌},
  lanes.{specs.Lanes.{greater, lane}, proofs.Lanes.lanewise_of_two},
  trellis_decode.{specs.AcsLanes.metrics_of_lanes, proofs.AcsSteps.{IsDecision-candidates, step_metric}},
}
use Rattle.trellis_decode.proofs.acs_step.TrellisStep.new.Goals as goal

pub returns-clause-candidates : goal.returns-clause-candidates
returns-clause-candidates c = assumption

pub returns-clause-each : goal.returns-clause-each
returns-clause-each c pair has s lt =
    let low = c.lane_maxima-low.result.lanes in
    let high = c.lane_maxima-high.result.lanes in
    let is = ap₂ metrics_of_lanes c.interleave_first_lanes.ensures.each c.interleave_last_lanes.ensures.each in
    rw (ap (λ metrics. lane metrics s) is ∙ step_metric low high s lt)
    (IsDecision-candidates c.args.after.even_states.lanes c.args.after.odd_states.lanes _ pair has _ (returns-clause-candidates c)
    low high c.decisions_from_candidates.result.lanes c.decisions_from_candidates-2.result.lanes
    (lanewise_of_two greater 8 8 _ _ low _ _ high c.lane_maxima-low.ensures.each
    c.lane_maxima-high.ensures.each)
    (lanewise_of_two (λ x y. if int_lt x y then negsuc 0 else pos 0) 8 8 _ _ _ _ _ _
    c.decisions_from_candidates.ensures.each c.decisions_from_candidates-2.ensures.each) s lt)
