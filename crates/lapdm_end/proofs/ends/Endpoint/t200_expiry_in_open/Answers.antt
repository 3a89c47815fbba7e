use Rattle.{
  std.proofs.Common.{refl, sym, ◌∙◌, ap, subst, ◌+◌},
  lapdm_window.specs.{declared.Timer.Timer, Ends.{EndpointState, n200}, Answers.state_after_t200},
  lapdm_end.{
    specs.{Abstraction.segment_repeats_in, Windows.RepresentsOpenEndpoint},
    proofs.Lemmas.{same_rules_in_open, as_outcome, Runs-open, refines-open, kept_in_open, unrepeated_in_open, t200_result-spent},
    proofs.Lemmas.{t200_result-again, t200_expiry-closes, t200_expiry-open},
  },
}
use Rattle.lapdm_window.specs.Abstraction as W
use Rattle.lapdm_end.proofs.ends.Endpoint.t200_expiry_in_open.Goals as goal

pub returns-in-Spent-clause-refines : goal.returns-in-Spent-clause-refines
returns-in-Spent-clause-refines c e h =
    let m = c.args.self.now in
    let still_open : RepresentsOpenEndpoint m.address m.window e = Runs-open c.requires.open h in
    let window : W.Represents c.on_timer.new.self e = subst (λ (r : Timer). W.Represents c.on_timer.new.self (state_after_t200 r e))
    c.in-Spent.is
    (c.on_timer.ensures.counted e still_open.window) in
    let most = t200_result-spent e (sym c.in-Spent.is ∙ c.on_timer.ensures.answer e still_open.window) in
    as_outcome e (t200_expiry-closes _ e (ap (n200 e.channel) still_open.state) most)
    (c.close_and_report_into.ensures.refines e (record {
      valid = h.valid;
      address = h.address;
      state = h.state;
      sabm_info = h.sabm_info;
      variables = window.variables;
      unacked_messages = window.unacked_messages;
      retries = h.retries;
      segment_repeats = window.retries ∙ sym (ap (λ s. segment_repeats_in s e) still_open.state);
    }))

pub returns-in-Again-clause-refines : goal.returns-in-Again-clause-refines
returns-in-Again-clause-refines c e h =
    let m = c.args.self.now in
    let still_open : RepresentsOpenEndpoint m.address m.window e = Runs-open c.requires.open h in
    let again = t200_result-again e (sym c.in-Again.is ∙ c.on_timer.ensures.answer e still_open.window) in
    let f : EndpointState = record e { retries = e.retries + 1 } in
    let window : W.Represents c.on_timer.new.self f = subst (λ (r : Timer). W.Represents c.on_timer.new.self (state_after_t200 r e))
    c.in-Again.is
    (c.on_timer.ensures.counted e still_open.window) in
    let g = c.send_outstanding_segment.ensures.refines f (same_rules_in_open still_open refl refl refl refl window) in
    as_outcome e (t200_expiry-open e still_open.state again.0 again.1) (refines-open _ c.requires.open h.sabm_info
    (kept_in_open c.requires.open h) (unrepeated_in_open c.requires.open h) c.clear.ensures.frames c.clear.ensures.notices
    h.address.channel g)
