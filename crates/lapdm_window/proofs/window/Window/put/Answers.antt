use Rattle.{
  std.proofs.{Common.{arith, ◌≤◌, length}, lemmas.Bool.Decides.nat_tests},
  segmenting.{specs.{lapdm_frame.Layout.n201, Segments.IsValidMessage}, proofs.Lemmas.IsN201-n201},
  lapdm_window.proofs.Windows.{acked_message_count-push, HasWindowOfOne-push, Holds-push, within_held},
}
use Rattle.lapdm_window.proofs.window.Window.put.Goals as goal

pub returns-clause-taken : goal.returns-clause-taken
returns-clause-taken c e h =
    let w = c.args.self.now in
    let m = c.args.message.now in
    let n = n201 e.channel in
    let some_octets : 1 ≤ length m = grind (arith, nat_tests) in
    let good : IsValidMessage m = record { nonempty = some_octets; at_most = c.if-message-gt-LONGEST_MESSAGE.false } in
    record {
      window_of_one = HasWindowOfOne-push e m h.window_of_one good;
      variables = grind (arith, acked_message_count-push e m h.window_of_one);
      unacked_messages = rw c.push.ensures.items (Holds-push e m w.held.items w.segment_index h.window_of_one h.unacked_messages
          (within_held n w.segment_index w.held.items (IsN201-n201 e.channel).positive (rw h.variables.channel at w.in_range)));
      retries = h.retries;
    }
