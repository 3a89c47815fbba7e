use Rattle.{
  std.proofs.{Common.{refl, sym, ◌∙◌}, lemmas.List.append-nil},
  lapdm_window.specs.declared.State.TheVariants.Closed,
  lapdm_end.proofs.Lemmas.{possible_later, stopped, stopped_holds, stopped_retries, Represents-moved},
}
use Rattle.lapdm_end.proofs.ends.Endpoint.close_and_report.Goals as goal

pub returns-clause-refines : goal.returns-clause-refines
returns-clause-refines c e h =
    let m = c.args.self.now in
    let w = c.stop_repeating.new.self in
    let same = c.stop_repeating.ensures.values in
    record {
      represents = Represents-moved h.valid h.address (stopped m.window w same h.variables)
          (stopped_holds m.window w same h.unacked_messages) refl h.sabm_info h.valid.sabm_info_fits
          (possible_later e.state Closed e.sapi e.sabm_info (λ idle. c.requires.begun (h.state ∙ idle)) (λ u. cc)
          h.valid.possible_sabm_info) (λ u. cc) (λ u. absurd u) refl (stopped_retries m.window w same);
      frames = sym (append-nil c.args.effects.now.frames);
      notices = c.push.ensures;
    }
