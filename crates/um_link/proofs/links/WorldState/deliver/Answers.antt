use Rattle.{
  std.proofs.Common.{Some, arith, refl, sym, ◌≡◌, ◌∙◌},
  um_block.specs.declared.received.Received.Received,
  um_link.{
    specs.{FourEndpoints.TakesBlock, Naming.{spec_role_of, spec_step_of}},
    proofs.Lemmas.{receive-oldest, refused_step, deliver-full_queue, room-other},
  },
}
use Rattle.um_link.proofs.links.WorldState.deliver.Goals as goal

pub send_step_frames-requires-clause-space : goal.send_step_frames-requires-clause-space
send_step_frames-requires-clause-space g c =
    room-other (spec_role_of c.args.sender) _ c.args.self.now c.receive.new.self _ c.other_end-end.ensures
    c.receive.ensures.receives.rest_same (sym c.is_queue_full.ensures ∙ c.if-is_queue_full.false)

pub returns-clause-step : goal.returns-clause-step
returns-clause-step g c =
    let hears : (report : Received) → c.receive.new.received ≡ Some report →
    TakesBlock (spec_role_of c.other_end-end.result) report.accepted c.receive.new.self.ends c.take_block-step.result
    c.take_block-step.new.effects c.take_block-step.new.self = λ report is.
    let same : c.unwrap-report.result.now ≡ report = grind (arith, c.as_ref.ensures.value, c.unwrap-report.ensures, is) in
    rw same at c.take_block-step.ensures.takes in
    let refines = receive-oldest (spec_role_of c.args.sender) (spec_role_of c.other_end-end.result) c.args.inverted_bits.now c.args.self.now
    c.receive.new.self
    c.send_step_frames.new.self c.take_block-step.new.self c.receive.new.received _ _ (spec_step_of c.send_step_frames.new.step)
    c.other_end-end.ensures c.receive.ensures.receives c.receive.ensures.valid hears (sym c.has_no_queued_block.ensures
    ∙ c.if-has_no_queued_block.false)
    (sym c.is_queue_full.ensures ∙ c.if-is_queue_full.false) c.send_step_frames.ensures.sends c.send_step_frames.ensures.step in
    record { refines = refines; valid = c.send_step_frames.ensures.valid; refused = tt; fits_actor = c.send_step_frames.ensures.who }

pub returns-then-is_queue_full-clause-step : goal.returns-then-is_queue_full-clause-step
returns-then-is_queue_full-clause-step g c =
    refused_step _ _ _ _ refl c.requires.valid
    (deliver-full_queue (spec_role_of c.args.sender) _ c.args.inverted_bits.now c.args.self.now c.other_end-end.ensures
    (sym c.has_no_queued_block.ensures ∙ c.if-has_no_queued_block.false) (sym c.is_queue_full.ensures ∙ c.if-is_queue_full.true))
