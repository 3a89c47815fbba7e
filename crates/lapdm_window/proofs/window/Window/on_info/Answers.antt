use Rattle.{
  std.proofs.{Common.{arith, refl, sym, ◌∙◌, ap, ◌%◌, [], ◌∷◌, length}, lemmas.List.length-append},
  segmenting.specs.Segments.Segment,
  lapdm_window.proofs.Windows.next_number,
}
use Rattle.lapdm_window.proofs.window.Window.on_info.Goals as goal

pub returns-clause-taken : goal.returns-clause-taken
returns-clause-taken c e h =
    let p : Segment = (c.args.piece.now, c.args.more) in
    record {
      window_of_one = grind arith;
      variables = record {
        channel = h.variables.channel;
        vs = h.variables.vs;
        va = h.variables.va;
        vr = next_number (length e.accepted_segments) c.args.self.now.vr h.variables.vr
            ∙ ap (λ n. n % 8) (sym (length-append e.accepted_segments (p ∷ [])));
        acked_messages = h.variables.acked_messages;
        rejecting = refl;
        reassembly = c.take.ensures.after e.accepted_segments h.variables.reassembly;
      };
      unacked_messages = grind arith;
      retries = h.retries;
    }
