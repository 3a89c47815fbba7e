use Rattle.{
  std.proofs.Common.{arith, [], slice_index_or},
  segmenting.{specs.lapdm_frame.Layout.n201, proofs.Lemmas.{length-segments, IsN201-n201}},
  lapdm_window.proofs.Windows.{awaits_ack-one, HasSize, HasSize-segment, one_outstanding, first_unacked_segment-is},
  lapdm_window.proofs.Windows.outstanding_segment-next,
}
use Rattle.lapdm_window.proofs.window.Window.waiting.Goals as goal

pub returns-clause-piece : goal.returns-clause-piece
returns-clause-piece c e h =
    outstanding_segment-next e _ (awaits_ack-one e (one_outstanding h c.if-self.false))
    (first_unacked_segment-is h (c.args.self.now.waiting c.if-self.false) c.next.ensures)

pub returns-clause-size : goal.returns-clause-size
returns-clause-size c =
    let w = c.args.self.now in
    let m = slice_index_or w.held.items 0 [] in
    let within = length-segments (n201 w.channel) m in
    let size : HasSize (n201 w.channel) c.next.result.octets.now = HasSize-segment
    (n201 w.channel) w.segment_index m c.next.result.octets.now c.next.result.more (IsN201-n201 w.channel).positive
    (w.messages 0 [] (w.waiting c.if-self.false)) (omega (arith, within, w.in_range)) c.next.ensures in
    (size.nonempty, size.at_most)
