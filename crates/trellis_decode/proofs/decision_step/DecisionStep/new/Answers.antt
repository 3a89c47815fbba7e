use Rattle.{
  trellis_decode.proofs.{
    AcsSteps.{AreLeads, IsDecision-bit, high_differences_fit, leads-subtract_lanes, IsDecision-loss, low_differences_fit},
    decision_step.DecisionStep.new.Goals.After-to_state_order-leads,
  },
  lanes.specs.Lanes.lane,
}
use Rattle.trellis_decode.proofs.decision_step.DecisionStep.new.Goals as goal

pub subtract_lanes-low-requires-clause-fits_16_bits : goal.subtract_lanes-low-requires-clause-fits_16_bits
subtract_lanes-low-requires-clause-fits_16_bits c =
    low_differences_fit _ _ _ _ c.new-step.ensures.candidates c.requires.close c.requires.branch_metrics

pub subtract_lanes-high-requires-clause-fits_16_bits : goal.subtract_lanes-high-requires-clause-fits_16_bits
subtract_lanes-high-requires-clause-fits_16_bits c =
    high_differences_fit _ _ _ _ c.new-step.ensures.candidates c.requires.close c.requires.branch_metrics

leads : (c : After-to_state_order-leads) →
    AreLeads c.args.after.even_states.lanes c.args.after.odd_states.lanes c.args.branch_metrics.lanes
    c.to_state_order-leads.result.lanes
leads c = leads-subtract_lanes _ _ _ c.new-step.result.candidates c.new-step.ensures.candidates c.requires.close c.requires.branch_metrics
    c.subtract_lanes-low.result.lanes c.subtract_lanes-high.result.lanes _
    c.subtract_lanes-low.ensures.each c.subtract_lanes-high.ensures.each c.to_state_order-leads.ensures

pub signs-requires : goal.signs-requires
signs-requires c = (leads (goal.at.signs-requires c).After-to_state_order-leads).subtract_lanes

pub absolute_values-requires : goal.absolute_values-requires
absolute_values-requires c = (leads (goal.at.absolute_values-requires c).After-to_state_order-leads).subtract_lanes

pub returns-clause-each : goal.returns-clause-each
returns-clause-each c pair has s lt =
    IsDecision-bit _ _ s _ _ _ _ (c.new-step.ensures.each _ has s lt)
    ((leads (goal.at.returns-clause-each c).After-to_state_order-leads).each _ has s lt) (c.signs.ensures s lt)

pub returns-clause-losses : goal.returns-clause-losses
returns-clause-losses c pair has s lt =
    IsDecision-loss _ _ s _ _ (lane _ s) _
    (returns-clause-each c _ has s lt) ((leads (goal.at.returns-clause-losses c).After-to_state_order-leads).each _ has s lt)
    (c.absolute_values.ensures.each s lt)
