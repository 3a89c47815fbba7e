use Rattle.{
  std.proofs.Common.{◌∙◌, ap, true, ◌++◌, ◌∷◌, []},
  lapdm_frame.specs.{Content.Ua, Frames.octets_of},
  lapdm_window.specs.{declared.Reason.TheVariants.Released, Ends.{Outcome, response_frame}, Tables.closes_and_reports},
}
use Rattle.lapdm_end.proofs.ends.Endpoint.accept_disc.Goals as goal

pub returns-clause-refines : goal.returns-clause-refines
returns-clause-refines c e h =
    let o : Outcome = closes_and_reports Released e in
    let ua = octets_of c.close_and_report.new.self.address.channel (response_frame o.new_state (Ua true [])) in
    let g = c.close_and_report.ensures.refines e h in
    record {
      represents = g.represents;
      frames = c.answer.ensures.frames o.new_state g.represents ∙ ap (λ fs. fs ++ ua ∷ []) c.close_and_report.ensures.frames;
      notices = c.answer.ensures.notices ∙ g.notices;
    }
