use Rattle.{
  std.proofs.Common.{refl, sym, ap, None},
  um_link.specs.{lapdm_window.Calls.endpoint_call_of, lapdm_link.Events.as_event_refusal, um_air.Air.{Accepts, Refuses}},
  um_end.{specs.{Terminals.layer3_call_step, Abstraction.role_of_terminal}, proofs.EndSteps.terminal_step-is},
  lapdm_end.proofs.Lemmas.represents_at,
}
use Rattle.um_end.proofs.terminal.Terminal.ask_into.Goals as goal

pub returns-in-Ok-clause-refines : goal.returns-in-Ok-clause-refines
returns-in-Ok-clause-refines c a st =
    let sapi = c.sapi_of_event-sapi.result in
    let d = layer3_call_step sapi (endpoint_call_of c.endpoint_call_of_event-call.result) a in
    let done = rw c.args.self.now.channel at (c.in-Ok.ensures.refines a st) in
    rw (
      ← c.sapi_of_event-sapi.ensures,
      ← c.endpoint_call_of_event-call.ensures.asked_call,
      ap as_event_refusal (sym (c.in-Ok.ensures.refusal _ (represents_at sapi c.args.self.now.links a st))),
    ) (
      done.represents,
      ap Accepts (terminal_step-is (role_of_terminal c.args.self.now) _ None d _ _ _ _ c.set_side_and_sapi.ensures.step refl done),
    )

pub returns-in-Err-clause-refines : goal.returns-in-Err-clause-refines
returns-in-Err-clause-refines c a st = rw (
  ← c.sapi_of_event-sapi.ensures,
  ← c.endpoint_call_of_event-call.ensures.asked_call,
  ap as_event_refusal (sym (c.in-Err.ensures.refusal _ (represents_at _ c.args.self.now.links a st))),
) (rw c.in-Err.ensures.refused st, ap Refuses c.from.ensures)
