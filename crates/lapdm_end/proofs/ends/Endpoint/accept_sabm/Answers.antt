use Rattle.{
  std.proofs.Common.{refl, sym, ◌≡◌, ◌∙◌, ap, if◌then◌else◌, ◌++◌, ◌∷◌, []},
  lapdm_window.specs.declared.State.TheVariants.{Idle, Open},
  lapdm_end.{specs.Abstraction.{command_repeats, segment_repeats_in}, proofs.Lemmas.{Adds-by, moved, unopened, Represents-moved}},
}
use Rattle.lapdm_window.specs.declared.Notice.TheVariants as N
use Rattle.lapdm_end.proofs.ends.Endpoint.accept_sabm.Goals as goal

pub returns-clause-refines : goal.returns-clause-refines
returns-clause-refines c e h =
    let info = c.args.info.now in
    let may = c.requires.may in
    let is : e.state ≡ Idle = sym h.state ∙ may.idle in
    let none = unopened e (h.valid.no_message_before_open (rw is tt)) h.valid.window in
    Adds-by (λ s. c.answer.ensures.frames (moved Open info e.retries e) s) (c.answer.ensures.notices ∙ c.push.ensures ∙ ap
    (λ o. c.args.effects.now.notices ++ N.Opened o ∷ []) c.new.ensures)
    (Represents-moved h.valid h.address h.variables h.unacked_messages refl c.new-self.ensures (rw (← h.address.channel) may.fits)
    (rw (← h.address.sapi) may.possible) (λ u. cc) (λ u. absurd u) (h.retries ∙ ap (λ s. command_repeats s e.retries) is)
    (h.segment_repeats ∙ ap (λ s. segment_repeats_in s e) is ∙ sym (ap (λ b. if b then e.retries else 0) none)))
