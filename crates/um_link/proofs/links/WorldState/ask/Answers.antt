use Rattle.{
  std.proofs.Common.{refl, sym, ◌∙◌, ap, None, Some},
  um_air.specs.lapdm_window.Calls.endpoint_call_of,
  um_link.{
    specs.Naming.spec_role_of,
    proofs.Lemmas.{carries_out_call, refused_step, on-channel, asked-is, asked-event_step, asked-refusal, asked-plain},
  },
}
use Rattle.um_air.specs.lapdm_link.Events as E
use Rattle.um_link.proofs.links.WorldState.ask.Goals as goal

pub returns-in-Ok-clause-step : goal.returns-in-Ok-clause-step
returns-in-Ok-clause-step g c event asked =
    let w = c.args.self.now in
    let role = spec_role_of c.args.end in
    let call = endpoint_call_of c.args.call.now in
    let event_step = asked-event_step role c.args.sapi call event asked in
    let refines = carries_out_call event role w _ c.ask.new.self _ (E.BySide role) c.args.sapi _ c.send_step_frames.ensures.step
    (λ es st. rw (event_step es) (on-channel w _ _ (E.layer3_call_step role c.args.sapi call) c.requires.valid c.in-Ok.ensures.refines
    es st)) (λ a st. asked-refusal role c.args.sapi call event asked a
    ∙ asked-is role c.args.sapi call w None (sym c.is_queue_full.ensures ∙ c.if-is_queue_full.false) c.in-Ok.ensures.refusal a st)
    (asked-plain role c.args.sapi call event asked) refl (λ es. rw (event_step es) refl) (λ es. rw (event_step es) refl)
    c.send_step_frames.ensures.sends in
    record { refines = refines; valid = c.send_step_frames.ensures.valid; refused = tt; fits_actor = c.send_step_frames.ensures.who }

pub returns-in-Err-clause-step : goal.returns-in-Err-clause-step
returns-in-Err-clause-step g c event asked =
    let w = c.args.self.now in
    let role = spec_role_of c.args.end in
    let call = endpoint_call_of c.args.call.now in
    refused_step event _ w _ (ap (λ ends. record w { ends = ends }) c.in-Err.ensures.refused) c.requires.valid
    (λ a st. asked-refusal role c.args.sapi call event asked a
    ∙ asked-is role c.args.sapi call w (Some c.in-Err.refused) (sym c.is_queue_full.ensures ∙ c.if-is_queue_full.false)
    c.in-Err.ensures.refusal a st ∙ ap Some (sym c.from.ensures))
