use Rattle.{
  std.proofs.{Common.{sym, ◌∙◌, arith, ◌≤◌, length}, lemmas.Bool.Decides.nat_tests},
  lapdm_window.proofs.Windows.{next_number, is_left, has_segment_to_send-left, HasWindowOfOne-next},
}
use Rattle.lapdm_window.proofs.window.Window.send_next.Goals as goal

pub returns-clause-answer : goal.returns-clause-answer
returns-clause-answer c e h =
    let w = c.args.self.now in
    let some_held : 1 ≤ length w.held.items = grind (arith, nat_tests) in
    sym (has_segment_to_send-left e h.window_of_one (sym h.variables.vs ∙ c.if-self.false ∙ h.variables.va)
    (is_left h some_held))

pub returns-clause-sent : goal.returns-clause-sent
returns-clause-sent c e h =
    let w = c.args.self.now in
    let some_held : 1 ≤ length w.held.items = grind (arith, nat_tests) in
    record {
      window_of_one = HasWindowOfOne-next e h.window_of_one (sym h.variables.vs ∙ c.if-self.false ∙ h.variables.va)
          (is_left h some_held);
      variables = grind (arith, next_number e.sent_segments w.vs h.variables.vs);
      unacked_messages = grind arith;
      retries = grind (arith, nat_tests);
    }
