use Rattle.{
  std.proofs.{Common.refl, lemmas.Result.IfErr-weaker},
  um_air.specs.lapdm_window.{
    Ends.EndpointState,
    Calls.{Call, IsCallAllowedForEndpoint, SendsUi, SendsFillFrame, IsUiFrameCall, endpoint_call_of},
  },
  um_c.proofs.Calls.{answered_by, is_read, OnOk-map},
}
use Rattle.um_c.proofs.ends.send_ui_frame.Goals as goal

placeholder_endpoint : (call : Call) (e : EndpointState) → IsUiFrameCall call → IsCallAllowedForEndpoint e call
placeholder_endpoint (SendsUi m) e h = tt
placeholder_endpoint SendsFillFrame e h = tt
placeholder_endpoint other e h = absurd h

pub returns : goal.returns
returns c =
    answered_by (is_read c.read_endpoint.ensures.represents c.read_endpoint.ensures.valid c.if-not-read_endpoint.false)
    c.call-answer.new.self c.call-answer.new.effects c.call-answer.result
    (λ e h. placeholder_endpoint (endpoint_call_of c.args.call.now) e c.requires) c.call-answer.ensures.refusal
    c.call-answer.ensures.refines
    (OnOk-map c.call-answer.result (λ done. (
      done.0,
      rw (c.call-answer.ensures.unchanged c.requires) (c.read_endpoint.ensures.decoded c.if-not-read_endpoint.false),
      done.1,
    )) c.write_call_effects.ensures.done)
    (IfErr-weaker c.call-answer.result _ _ (λ reason refused. (refused.0, refl, refused.1)) c.write_call_effects.ensures.refused)
