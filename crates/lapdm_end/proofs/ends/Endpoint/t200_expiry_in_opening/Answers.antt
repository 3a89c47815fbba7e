use Rattle.{
  std.proofs.Common.{◌≡◌, sym, ◌∙◌, ap, arith, ◌+◌},
  lapdm_window.specs.{declared.State.TheVariants.Opening, Ends.{EndpointState, n200}},
  lapdm_end.{
    specs.Abstraction.{command_repeats, segment_repeats_in},
    proofs.Lemmas.{as_outcome, both, moved, t200_expiry-closes, t200_expiry-again, Represents-moved},
  },
}
use Rattle.lapdm_end.proofs.ends.Endpoint.t200_expiry_in_opening.Goals as goal

pub returns-then-self-n200-clause-refines : goal.returns-then-self-n200-clause-refines
returns-then-self-n200-clause-refines c e h =
    let m = c.args.self.now in
    let is : e.state ≡ Opening = sym h.state ∙ c.requires.opening in
    let most : c.n200.result ≡ n200 e.channel Opening = rw (← h.address.channel) c.n200.ensures.value in
    let count : m.retries ≡ e.retries = h.retries ∙ ap (λ s. command_repeats s e.retries) is in
    as_outcome e (t200_expiry-closes c.n200.result e (ap (n200 e.channel) is ∙ sym most)
    (omega (arith, c.if-self-n200.true, count)))
    (c.close_and_report_into.ensures.refines e h)

pub returns-clause-refines : goal.returns-clause-refines
returns-clause-refines c e h =
    let m = c.args.self.now in
    let is : e.state ≡ Opening = sym h.state ∙ c.requires.opening in
    let most : c.n200.result ≡ n200 e.channel Opening = rw (← h.address.channel) c.n200.ensures.value in
    let count : m.retries ≡ e.retries = h.retries ∙ ap (λ s. command_repeats s e.retries) is in
    let f : EndpointState = moved e.state e.sabm_info (e.retries + 1) e in
    as_outcome e (t200_expiry-again _ e _ is most (omega (arith, c.if-self-n200.false, count))) (both
    (Represents-moved h.valid h.address h.variables h.unacked_messages h.state h.sabm_info h.valid.sabm_info_fits
    h.valid.possible_sabm_info h.valid.mobile_opens_sapi0 (λ u. u)
    (ap (λ n. n + 1) count ∙ sym (ap (λ s. command_repeats s (e.retries + 1)) is))
    (h.segment_repeats ∙ ap (λ s. segment_repeats_in s e) is ∙ sym (ap (λ s. segment_repeats_in s f) is)))
    (λ s. record { frames = c.send_sabm.ensures.frames f s; notices = c.send_sabm.ensures.notices }))
