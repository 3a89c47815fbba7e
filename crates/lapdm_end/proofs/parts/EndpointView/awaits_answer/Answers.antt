use Rattle.{
  std.proofs.Common.{◌≡◌, sym, ◌∙◌, ap, arith, not, nat_eq},
  lapdm_window.specs.Ends.{EndpointState, HasWindowOfOne, awaits_ack, awaits_answer_in_state, vs, va},
  lapdm_end.specs.Parts.EndpointValues,
}
use Rattle.lapdm_window.specs.declared.State.{State}
use Rattle.std.proofs.lemmas.Bool.Decides.{nat_tests}
use Rattle.lapdm_end.proofs.parts.EndpointView.awaits_answer.Goals as goal

-- at most one segment is outstanding, so V(S) and V(A), which count modulo 8, show whether one is
waits : (e : EndpointState) → HasWindowOfOne e → not (nat_eq (vs e) (va e)) ≡ awaits_ack e
waits e h = grind (arith, nat_tests, h.acked_at_most_sent, h.window)

pub returns : goal.returns
returns c e h =
    let p = c.args.self.now in
    let v = h.values_match in
    let g = h.represents in
    let state : p.state ≡ e.state = sym (ap (λ (y : EndpointValues). y.state) v) ∙ g.state in
    let sent : p.window.vs ≡ vs e = sym (ap (λ (y : EndpointValues). y.window.vs) v) ∙ g.variables.vs in
    let acked : p.window.va ≡ va e = sym (ap (λ (y : EndpointValues). y.window.va) v) ∙ g.variables.va in
    c.awaits_answer_in_state.ensures
    ∙ (λ i. awaits_answer_in_state (state i) (not (nat_eq (sent i) (acked i))))
    ∙ ap (awaits_answer_in_state e.state) (waits e g.valid.window)
