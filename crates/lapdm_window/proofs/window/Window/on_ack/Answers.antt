-- The proof has four cases: no segment is outstanding; the N(R) differs from V(S); the outstanding segment has M = 1; the outstanding
-- segment is the last of its message, which the window then removes.
use Rattle.{
  std.proofs.Common.{◌≡◌, refl, sym, ◌∙◌, ap, subst, arith, ◌+◌, [], true, false, length, drop, slice_index_or, Some},
  std.proofs.lemmas.List.{length-drop, Elements.{All-same, All-drop}},
  segmenting.specs.{lapdm_frame.Layout.n201, Segments.{IsValidMessage, segments}},
  lapdm_window.{
    specs.{Ends.{first_unacked_segment, acked_message_count, capped_at_64_bits}, Rules.acked_message_number, Abstraction.Represents},
    proofs.{
      Windows.{capped-more, goes_on, ends, acked_message_count-more, acked_message_count-last, first_unacked_segment-is, is_left},
      Windows.{one_outstanding, acked-represents, nr_acknowledges_segment-vs, Holds-more, Holds-last, nr_acknowledges_segment-not_waiting},
      Windows.{nr_acknowledges_segment-other, evaluates_nr-nothing, acknowledgement_by_nr-segment, acknowledgement_by_nr-message},
      window.Window.on_ack.Goals.{then-self-via-then-self, then-self-via-else-self+then-nr-self},
    },
  },
}
use Rattle.lapdm_window.specs.declared.Acked.TheVariants as V
use Rattle.lapdm_window.proofs.window.Window.on_ack.Goals as goal

pub invariant_of-self : goal.invariant_of-self
invariant_of-self c =
    let w = c.args.self.now in
    record {
      at_most_8 = w.at_most_8;
      messages = w.messages;
      in_range = goes_on (n201 w.channel) w.segment_index (slice_index_or w.held.items 0 []) c.next-more.result.octets.now
          (c.next-more.ensures ∙ ap
          (λ b. Some (c.next-more.result.octets.now, b)) c.if-more.true);
      waiting = λ other. absurd (other refl);
      vs_fits = w.vs_fits;
      va_fits = w.vs_fits;
      vr_fits = w.vr_fits;
    }

pub invariant_of-self-2 : goal.invariant_of-self-2
invariant_of-self-2 c =
    let w = c.args.self.now in
    let items : c.remove_first_message.new.self.items ≡ drop 1 w.held.items = c.remove_first_message.ensures.items in
    record {
      at_most_8 = omega (arith, ap length items, length-drop 1 w.held.items, w.at_most_8);
      messages = All-same IsValidMessage c.remove_first_message.new.self.items (drop 1 w.held.items) items
          (All-drop IsValidMessage 1 w.held.items w.messages);
      in_range = omega arith;
      waiting = λ other. absurd (other refl);
      vs_fits = w.vs_fits;
      va_fits = w.vs_fits;
      vr_fits = w.vr_fits;
    }

pub returns-then-self-clause-counted : goal.returns-then-self-clause-counted
returns-then-self-clause-counted c e h =
    elim c.then-self.branch [
      | then-self-via-then-self w ↦ subst (Represents _) (sym (evaluates_nr-nothing e c.args.nr
          (nr_acknowledges_segment-not_waiting e c.args.nr h.window_of_one (sym h.variables.vs ∙ w.if-self.true ∙ h.variables.va)))) h
      | then-self-via-else-self+then-nr-self w ↦ subst (Represents _) (sym (evaluates_nr-nothing e c.args.nr
          (nr_acknowledges_segment-other e c.args.nr (λ same. w.if-nr-self.true (same ∙ sym h.variables.vs))))) h
    ]

pub returns-then-more-clause-answer : goal.returns-then-more-clause-answer
returns-then-more-clause-answer c e h =
    sym (acknowledgement_by_nr-segment e c.args.nr (nr_acknowledges_segment-vs h c.if-self.false c.args.nr c.if-nr-self.false)
    (ap (λ p. p.1) (first_unacked_segment-is h (c.args.self.now.waiting c.if-self.false) c.next-more.ensures) ∙ c.if-more.true))

pub returns-then-more-clause-counted : goal.returns-then-more-clause-counted
returns-then-more-clause-counted c e h =
    let w = c.args.self.now in
    let some = w.waiting c.if-self.false in
    let one = one_outstanding h c.if-self.false in
    let more : (first_unacked_segment e).1 ≡ true = ap (λ p. p.1) (first_unacked_segment-is h some c.next-more.ensures)
    ∙ c.if-more.true in
    acked-represents h c.if-self.false c.args.nr c.if-nr-self.false refl
    (h.variables.acked_messages ∙ ap capped_at_64_bits (sym (acked_message_count-more e one (is_left h some) more)))
    (Holds-more e w.held.items w.segment_index one h.unacked_messages (is_left h some) more)

pub returns-clause-answer : goal.returns-clause-answer
returns-clause-answer c e h =
    let w = c.args.self.now in
    let some = w.waiting c.if-self.false in
    let last : (first_unacked_segment e).1 ≡ false = ap (λ p. p.1) (first_unacked_segment-is h some c.next-more.ensures)
    ∙ c.if-more.false in
    let number : c.saturating_add-self.result ≡ acked_message_number e = c.saturating_add-self.ensures
    ∙ capped-more (acked_message_count e) w.acked_messages h.variables.acked_messages ∙ ap capped_at_64_bits
    (sym (acked_message_count-last e (one_outstanding h c.if-self.false) (is_left h some) last)) in
    ap (λ n. V.Message n) number
    ∙ sym (acknowledgement_by_nr-message e c.args.nr (nr_acknowledges_segment-vs h c.if-self.false c.args.nr c.if-nr-self.false) last)

pub returns-clause-counted : goal.returns-clause-counted
returns-clause-counted c e h =
    let w = c.args.self.now in
    let m = slice_index_or w.held.items 0 [] in
    let some = w.waiting c.if-self.false in
    let one = one_outstanding h c.if-self.false in
    let last : (first_unacked_segment e).1 ≡ false = ap (λ p. p.1) (first_unacked_segment-is h some c.next-more.ensures)
    ∙ c.if-more.false in
    let at_the_end : w.segment_index + 1 ≡ length (segments (n201 e.channel) m) =
    ends (n201 w.channel) w.segment_index m c.next-more.result.octets.now
    (c.next-more.ensures ∙ ap (λ b. Some (c.next-more.result.octets.now, b)) c.if-more.false) ∙ ap
    (λ ch. length (segments (n201 ch) m)) h.variables.channel in
    acked-represents h c.if-self.false c.args.nr c.if-nr-self.false refl
    (c.saturating_add-self.ensures ∙ capped-more (acked_message_count e) w.acked_messages h.variables.acked_messages
    ∙ ap capped_at_64_bits (sym (acked_message_count-last e one (is_left h some) last)))
    (rw c.remove_first_message.ensures.items
    (Holds-last e w.held.items w.segment_index one h.unacked_messages (is_left h some) last some at_the_end))
