use Rattle.{
  std.proofs.Common.{refl, sym, ◌≡◌, ◌∙◌, ap},
  lapdm_window.specs.declared.State.TheVariants.{Idle, Opening},
  lapdm_end.{specs.Abstraction.segment_repeats_in, proofs.Lemmas.{moved, both, Represents-moved}},
}
use Rattle.lapdm_end.proofs.ends.Endpoint.begin_establishment.Goals as goal

pub returns-clause-refines : goal.returns-clause-refines
returns-clause-refines c e h =
    let info = c.args.info.now in
    let is : e.state ≡ Idle = sym h.state ∙ c.requires.idle in
    both (Represents-moved h.valid h.address h.variables h.unacked_messages refl c.new-self.ensures
    (rw (← h.address.channel) c.requires.fits) (rw (← h.address.sapi) c.requires.possible)
    (λ u zero. sym h.address.role ∙ c.requires.mobile_opens_sapi0 (h.address.sapi ∙ zero)) (λ u. rw is tt) refl
    (h.segment_repeats ∙ ap (λ s. segment_repeats_in s e) is))
    (λ s. record { frames = c.send_sabm.ensures.frames (moved Opening info 0 e) s; notices = c.send_sabm.ensures.notices })
