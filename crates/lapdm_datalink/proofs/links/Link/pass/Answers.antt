use Rattle.std.proofs.Common.{ap, ◌∙◌}
use Rattle.lapdm_end.specs.lapdm_window.Ends.{sapi_number}
use Rattle.{lapdm_frame.specs.{Content.{frame_of_view}, Frames.{FrameFits}}}
use Rattle.lapdm_link.proofs.lapdm_window.Lemmas.{keeps-frame}
use Rattle.lapdm_end.specs.lapdm_window.Tables.{frame_outcome}
use Rattle.lapdm_datalink.{specs.Links.{as_taken}, proofs.Lemmas.{outcome_kept, sapi_fits, taken_fits}}
use Rattle.lapdm_datalink.proofs.Returned.{returns-frame}
use Rattle.lapdm_datalink.proofs.links.Link.pass.Goals as goal

pub take_frame_into-requires : goal.take_frame_into-requires
take_frame_into-requires c = record {
  sapi = rw c.sapi_number.ensures (sapi_fits _);
  ns_nr_fit = c.body_as_taken.ensures.numbers c.requires.ns_nr_fit;
  information = c.body_as_taken.ensures.information _ c.requires.information;
}

pub returns-clause-done : goal.returns-clause-done
returns-clause-done c l h =
    let f = frame_of_view c.args.frame.now in
    let taken = as_taken f l in
    let fits : FrameFits l.endpoint.channel taken = taken_fits _ f l (rw h.endpoint.address.channel at c.requires) in
    outcome_kept c.args.self.now c.keep_all.new.self c.take_frame_into.new.self c.take_frame_into.new.effects l
    (frame_outcome taken l.endpoint)
    (keeps-frame taken l.endpoint h.endpoint.valid fits) (returns-frame taken l.endpoint) h
    ((rw (c.body_as_taken.ensures.value l h, c.sapi_number.ensures ∙ ap sapi_number (c.sapi.ensures.represents l.endpoint h.endpoint)) at
    c.take_frame_into.ensures.refines) l.endpoint h.endpoint)
    (rw (c.as_slice.ensures.value) at c.keep_all.ensures.kept)
