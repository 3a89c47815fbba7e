use Rattle.{
  std.proofs.{Common.{ap, false, nat_eq, refl, sym, true, ◌++◌, ◌∙◌, ◌≡◌}, lemmas.List.append-nil},
  lapdm_window.specs.{
    segmenting.{Segments.Segment, Joining.reassembly_result},
    Ends.vr,
    Rules.{accepts_segment, answers_segment, reject_is_due, with_accepted_segment, with_reject_condition},
  },
  lapdm_end.{specs.Windows.{RepresentsOpenEndpoint, AppendsOutcomeInOpen}, proofs.Lemmas.{Accepted-if, refused-if, takes_segment-same}},
  lapdm_end.proofs.Lemmas.{takes_segment-other, notices-completed_message, Gives-as, Gives-then, Gives-from, same_rules_in_open},
}
use Rattle.lapdm_end.proofs.link.Address.take_segment.Goals as goal

pub returns-in-Accepted-clause-refines : goal.returns-in-Accepted-clause-refines
returns-in-Accepted-clause-refines c e h =
    let segment : Segment = (c.args.segment.octets.now, c.args.segment.more) in
    let is : (nat_eq c.args.ns (vr e) ≡ true) × (c.in-Accepted.joined ≡ reassembly_result e.accepted_segments segment) =
    Accepted-if _ _ _ _
    (c.in-Accepted.ensures.answer e h.window) in
    let represents = c.in-Accepted.ensures.taken e h.window in
    let accepted : AppendsOutcomeInOpen c.args.self c.on_info.new.self c.args.effects.now c.report_message.new.effects e
    (accepts_segment segment e) = record {
      still_open = same_rules_in_open h refl refl refl refl represents;
      sabm_info = refl;
      frames = c.report_message.ensures.frames ∙ sym (append-nil c.args.effects.now.frames);
      notices = c.report_message.ensures.notices (with_accepted_segment segment e) represents ∙ ap
          (λ ns. c.args.effects.now.notices ++ ns)
          (notices-completed_message e.accepted_segments segment.0 segment.1 c.in-Accepted.joined
          is.1);
    } in
    Gives-as (takes_segment-same c.args.ns c.args.poll segment e is.0)
    (Gives-then (answers_segment c.args.poll) accepted c.answer_segment.ensures.refines)

pub returns-in-OutOfSequence-clause-refines : goal.returns-in-OutOfSequence-clause-refines
returns-in-OutOfSequence-clause-refines c e h =
    let segment : Segment = (c.args.segment.octets.now, c.args.segment.more) in
    let is : (nat_eq c.args.ns (vr e) ≡ false) × (c.in-OutOfSequence.reject ≡ reject_is_due c.args.poll e) = refused-if _ _ _ _
    (c.in-OutOfSequence.ensures.answer e h.window) in
    let still_open : RepresentsOpenEndpoint c.args.self c.on_info.new.self (with_reject_condition e) =
    same_rules_in_open h refl refl refl refl (c.in-OutOfSequence.ensures.taken e h.window) in
    Gives-as (takes_segment-other c.args.ns c.in-OutOfSequence.reject c.args.poll segment e is.0 is.1)
    (Gives-from e refl (c.answer_out_of_sequence_segment.ensures.refines (with_reject_condition e) still_open))
