use Rattle.{
  std.proofs.Common.{refl, rules, sym, ◌≡◌, ◌∙◌},
  lapdm_window.specs.declared.State.TheVariants.{Open, Closing},
  lapdm_end.proofs.Lemmas.{moved, both, possible_later, stopped, stopped_holds, stopped_retries, Represents-moved},
}
use Rattle.lapdm_end.proofs.ends.Endpoint.close_into.Goals as goal

pub returns-clause-refines : goal.returns-clause-refines
returns-clause-refines c e h =
    let m = c.args.self.now in
    let w = c.stop_repeating.new.self in
    let open_now : m.state ≡ Open = search rules in
    let is : e.state ≡ Open = sym h.state ∙ open_now in
    let same = c.stop_repeating.ensures.values in
    both (Represents-moved h.valid h.address (stopped m.window w same h.variables) (stopped_holds m.window w same h.unacked_messages)
    refl h.sabm_info h.valid.sabm_info_fits
    (possible_later e.state Closing e.sapi e.sabm_info (λ idle. cc) (λ u. cc) h.valid.possible_sabm_info) (λ u. cc) (λ u. absurd u) refl
    (stopped_retries m.window w same))
    (λ s. record { frames = c.send_disc.ensures.frames (moved Closing e.sabm_info 0 e) s; notices = c.send_disc.ensures.notices })
