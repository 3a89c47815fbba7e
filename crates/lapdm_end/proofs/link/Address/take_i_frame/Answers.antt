use Rattle.{
  lapdm_window.specs.segmenting.Segments.Segment,
  lapdm_end.{specs.Windows.takes_segment, proofs.Lemmas.{takes_i_frame-is, Gives-as, Gives-then}},
}
use Rattle.lapdm_end.proofs.link.Address.take_i_frame.Goals as goal

pub returns-clause-refines : goal.returns-clause-refines
returns-clause-refines c e h =
    let segment : Segment = (c.args.segment.octets.now, c.args.segment.more) in
    Gives-as (takes_i_frame-is c.args.ns c.args.nr c.args.poll segment e)
    (Gives-then (takes_segment c.args.ns c.args.poll segment) (c.evaluate_nr.ensures.refines e h) c.take_segment.ensures.refines)
