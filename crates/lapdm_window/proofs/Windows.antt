-- The window of an endpoint: its counts of segments and messages, and what its operations change.
use Rattle.{
  lapdm_window.specs.{
    Abstraction.{HoldsUnackedMessages, Represents},
    Answers.{acknowledgement_by_nr, outstanding_segment},
    Calls.with_queued_message,
    Ends.{EndpointState, HasWindowOfOne, Outcome, acked_message_count, segments_of_all_messages, awaits_ack, capped_at_64_bits},
    Ends.{first_unacked_segment, no_effect, reports_notice, va, vs},
    Rules.{acked_message_number, nr_acknowledges_segment, evaluates_nr, has_segment_to_send, with_segment_acked, with_segment_sent},
    Parts.values_of,
    declared.window.Window.Window,
  },
  segmenting.{proofs.Lemmas.{begins_within, count-all, count-append, length-segments, slice_get-segment}, specs.Joining.message_count},
  segmenting.specs.{Segments.{IsValidMessage, Message, Segment, cut_segments, number_of_segments, segments}, lapdm_frame.Layout.n201},
  std.{
    proofs.{
      Common.{Bool, List, None, Option, Some, [], ap, arith, drop, false, get_or, length, min, not, refl, slice_get, subst, suc, sym, take},
      Common.{true, zero, ℕ, ◌%◌, ◌*◌, ◌++◌, ◌+◌, ◌-◌, ◌/◌, ◌<◌, ◌^◌, ◌∙◌, ◌∷◌, ◌≡◌},
      Common.{◌≢◌, ◌≤◌},
      Math.{ListN.get_or-append, Seq.drop-append_seam},
      lemmas.{Bool.{Decides.nat_tests, false≢true}, List.{Concat.flat_map-append, Elements.All-push, Sums.count_by_more_no}},
      lemmas.List.{Sums.count_by_more_yes, append-nil, drop-append-le, drop-drop, get_or-drop, length-append, length-drop, length-take-le},
      lemmas.{List.{take-append-drop, take-append-le}, Option.get_or_from_slice_get},
    },
    specs.List.flat_map,
  },
}
use Rattle.lapdm_window.specs.declared.Acked as A
use Rattle.lapdm_window.specs.declared.Acked.TheVariants as V
use Rattle.lapdm_window.specs.declared.Notice.TheVariants as N

-- ## Numbers: If at most one segment is outstanding, V(S) and V(A), which count modulo 8, show whether one is outstanding.

pub not_awaited : (e : EndpointState) → HasWindowOfOne e → vs e ≡ va e → awaits_ack e ≡ false
not_awaited e h same = grind (arith, h.acked_at_most_sent, h.window)

pub one_sent : (e : EndpointState) → HasWindowOfOne e → vs e ≢ va e → e.sent_segments ≡ e.acked_segments + 1
one_sent e h other = grind (arith, h.acked_at_most_sent, h.window)

pub awaits_ack-one : (e : EndpointState) → e.sent_segments ≡ e.acked_segments + 1 → awaits_ack e ≡ true
awaits_ack-one e h = grind (arith, nat_tests)

pub next_number : (n v : ℕ) → v ≡ n % 8 → (v + 1) % 8 ≡ (n + 1) % 8
next_number n v h = grind arith

pub capped-more : (n d : ℕ) → d ≡ capped_at_64_bits n → min (d + 1) (2 ^ 64 - 1) ≡ capped_at_64_bits (n + 1)
capped-more n d h = omega arith

-- ## Counting: How acknowledged segments and new messages change the number of fully acknowledged messages.

pub acked_message_count-most : (e : EndpointState) → acked_message_count e ≤ length e.messages
acked_message_count-most e =
    let all = segments_of_all_messages e in
    omega (
      arith,
      count-append (take e.acked_segments all) (drop e.acked_segments all),
      ap message_count (take-append-drop e.acked_segments all),
      count-all (n201 e.channel) e.messages,
    )

pub acked_message_count-more : (e : EndpointState) → e.sent_segments ≡ e.acked_segments + 1 →
    e.acked_segments < length (segments_of_all_messages e) →
    (first_unacked_segment e).1 ≡ true → acked_message_count (with_segment_acked e) ≡ acked_message_count e
acked_message_count-more e one within more =
    rw one (count_by_more_no (λ p. not p.1) (segments_of_all_messages e) e.acked_segments ([], false) within (ap not more))

pub acked_message_count-last : (e : EndpointState) → e.sent_segments ≡ e.acked_segments + 1 →
    e.acked_segments < length (segments_of_all_messages e) →
    (first_unacked_segment e).1 ≡ false → acked_message_count (with_segment_acked e) ≡ acked_message_count e + 1
acked_message_count-last e one within more =
    rw one (count_by_more_yes (λ p. not p.1) (segments_of_all_messages e) e.acked_segments ([], false) within (ap not more))

pub segments_of_all_messages-push : (e : EndpointState) (m : Message) →
    segments_of_all_messages (with_queued_message m e) ≡ segments_of_all_messages e ++ segments (n201 e.channel) m
segments_of_all_messages-push e m = rw (flat_map-append, append-nil)

pub acked_message_count-push : (e : EndpointState) (m : Message) → HasWindowOfOne e →
    acked_message_count (with_queued_message m e) ≡ acked_message_count e
acked_message_count-push e m h =
    rw (
      segments_of_all_messages-push e m,
      take-append-le e.acked_segments (segments_of_all_messages e) (segments (n201 e.channel) m) (omega (
        arith,
        h.acked_at_most_sent,
        h.sent_segments,
      )),
    )

-- ## FirstSegments: The next segment has two indices: one among the segments of the first message held, and one among all segments. These
-- lemmas relate them.

abbrev octets_in_buffer : Option Segment → List ℕ
octets_in_buffer None = []
octets_in_buffer (Some p) = p.0

abbrev m_bit_in : Option Segment → Bool
m_bit_in None = false
m_bit_in (Some p) = p.1

goes_on-cut_segments : (n k i : ℕ) (m : List ℕ) (octets : List ℕ) → slice_get (cut_segments n k m) i ≡ Some (octets, true) →
    i < k
goes_on-cut_segments n zero zero m octets h = absurd (false≢true (ap m_bit_in h))
goes_on-cut_segments n zero (suc i) m octets h = cc
goes_on-cut_segments n (suc k) zero m octets h = omega arith
goes_on-cut_segments n (suc k) (suc i) m octets h = omega (arith, goes_on-cut_segments n k i (drop n m) octets h)

ends-cut_segments : (n k i : ℕ) (m : List ℕ) (octets : List ℕ) → slice_get (cut_segments n k m) i ≡ Some (octets, false) →
    i ≡ k
ends-cut_segments n zero zero m octets h = refl
ends-cut_segments n zero (suc i) m octets h = cc
ends-cut_segments n (suc k) zero m octets h = absurd (false≢true (sym (ap m_bit_in h)))
ends-cut_segments n (suc k) (suc i) m octets h = omega (arith, ends-cut_segments n k i (drop n m) octets h)

pub goes_on : (n i : ℕ) (m : Message) (octets : List ℕ) → slice_get (segments n m) i ≡ Some (octets, true) →
    i + 1 < number_of_segments n m
goes_on n i m octets h = omega (arith, goes_on-cut_segments n _ i m octets h)

pub ends : (n i : ℕ) (m : Message) (octets : List ℕ) → slice_get (segments n m) i ≡ Some (octets, false) →
    i + 1 ≡ length (segments n m)
ends n i m octets h = omega (arith, ends-cut_segments n _ i m octets h, length-segments n m)

pub record HasSize (n : ℕ) (octets : List ℕ) : Type 0 where
  pub nonempty : 1 ≤ length octets
  pub at_most : length octets ≤ n

pub HasSize-segment : (n i : ℕ) (m : Message) (octets : List ℕ) (more : Bool) → 0 < n → IsValidMessage m →
    i < length (segments n m) →
    slice_get (segments n m) i ≡ Some (octets, more) → HasSize n octets
HasSize-segment n i m octets more room h within is =
    let l = length m - i * n in
    let sends_sabm : i * n < length m = begins_within n i m room h.nonempty within in
    let same : octets ≡ take (min l n) (drop (i * n) m) = ap octets_in_buffer (sym is ∙ slice_get-segment n i m room h within) in
    let size : length (take (min l n) (drop (i * n) m)) ≡ min l n = length-take-le (min l n) (drop (i * n) m)
    (omega (arith, length-drop (i * n) m)) in
    record { nonempty = omega (arith, ap length same); at_most = omega (arith, ap length same) }

first_message_segment_count : (n place : ℕ) (held : List Message) (d : Segment) → 1 ≤ length held →
    place < length (segments n (get_or held 0 [])) → get_or (flat_map (segments n) held) place d ≡
    get_or (segments n (get_or held 0 [])) place d
first_message_segment_count n place [] d some_held h = absurd (omega (arith, some_held))
first_message_segment_count n place (m ∷ ms) d some_held h = get_or-append (segments n m) (flat_map (segments n) ms) d place h

pub within_all : (n place : ℕ) (held : List Message) → 1 ≤ length held → place < length (segments n (get_or held 0 [])) →
    place < length (flat_map (segments n) held)
within_all n place [] some_held h = absurd (omega (arith, some_held))
within_all n place (m ∷ ms) some_held h = omega (arith, length-append (segments n m) (flat_map (segments n) ms), h)

other_segments : (n place : ℕ) (held : List Message) → 1 ≤ length held → place ≡ length (segments n (get_or held 0 [])) →
    drop place (flat_map (segments n) held) ≡ flat_map (segments n) (drop 1 held)
other_segments n place [] some_held h = absurd (omega (arith, some_held))
other_segments n place (m ∷ ms) some_held h = grind (arith, drop-append_seam (segments n m) (flat_map (segments n) ms))

drop-next : (xs ys : List Segment) (i j : ℕ) → drop i xs ≡ drop j ys → drop (i + 1) xs ≡ drop (j + 1) ys
drop-next xs ys i j h = sym (drop-drop 1 i xs) ∙ ap (drop 1) h ∙ drop-drop 1 j ys

get_or-same : (xs ys : List Segment) (i j : ℕ) (d : Segment) → drop i xs ≡ drop j ys → get_or xs i d ≡ get_or ys j d
get_or-same xs ys i j d h = grind (arith, get_or-drop i xs 0 d, get_or-drop j ys 0 d)

within-same : (xs ys : List Segment) (i j : ℕ) → drop i xs ≡ drop j ys → i < length xs → j < length ys
within-same xs ys i j h below = omega (arith, length-drop i xs, length-drop j ys, ap length h)

-- ## ByWindowAnswers: How an endpoint reacts to a received N(R), in terms of what its window returns.

-- the outcome of a received N(R), given what it acknowledges: nothing, a segment that is not the last of its message, or the last segment
-- of a message
abbrev pub counted : A.Acked → EndpointState → Outcome
counted V.Nothing e = no_effect e
counted V.Piece e = no_effect (with_segment_acked e)
counted (V.Message number) e = reports_notice (N.Acked number) (with_segment_acked e)

pub evaluates_nr-is : (nr : ℕ) (e : EndpointState) → evaluates_nr nr e ≡ counted (acknowledgement_by_nr nr e) e
evaluates_nr-is nr e = grind arith

-- ## Moves: After each operation, a window still holds the unacknowledged segments of the endpoint, and the operation returns what the
-- rules of the endpoint define.

module _ {w : Window} {e : EndpointState} (h : Represents w e) (some_held : 1 ≤ length w.held.items) where
  within_first : w.segment_index < length (segments (n201 e.channel) (get_or w.held.items 0 []))
  within_first =
      rw (← h.variables.channel) (omega (arith, w.in_range, length-segments (n201 w.channel) (get_or w.held.items 0 [])))

  pub is_left : e.acked_segments < length (segments_of_all_messages e)
  is_left =
      within-same (flat_map (segments (n201 e.channel)) w.held.items) (segments_of_all_messages e) w.segment_index e.acked_segments
      h.unacked_messages.unacked_segments (within_all _ _ w.held.items some_held within_first)

  pub first_unacked_segment-is : {x : Segment} →
      slice_get (segments (n201 w.channel) (get_or w.held.items 0 [])) w.segment_index ≡ Some x →
      first_unacked_segment e ≡ x
  first_unacked_segment-is at =
      sym (get_or-same (flat_map (segments (n201 e.channel)) w.held.items) (segments_of_all_messages e) w.segment_index e.acked_segments
      ([], false)
      h.unacked_messages.unacked_segments)
      ∙ first_message_segment_count _ _ w.held.items ([], false) some_held within_first
      ∙ get_or_from_slice_get _ w.segment_index _ ([], false) (rw h.variables.channel at at)

-- ---- the window when layer 3 sends a message
pub zero-div : (n : ℕ) → 0 < n → 0 / n ≡ 0
zero-div n h = grind arith

segment_index-no_message : (n place : ℕ) → place < number_of_segments n [] → place ≡ 0 / n
segment_index-no_message n place h = omega (arith, h)

pub within_held : (n place : ℕ) (held : List Message) → 0 < n → place < number_of_segments n (get_or held 0 []) →
    place ≤ length (flat_map (segments n) held)
within_held n place [] room h = omega (arith, segment_index-no_message n place h, zero-div n room)
within_held n place (m ∷ ms) room h = omega (arith, within_all n place (m ∷ ms) (omega arith) (omega (arith, h, length-segments n m)))

pub HasWindowOfOne-push : (e : EndpointState) (m : Message) → HasWindowOfOne e → IsValidMessage m →
    HasWindowOfOne (with_queued_message m e)
HasWindowOfOne-push e m h good =
    grind (
      arith,
      All-push IsValidMessage e.messages m h.messages good,
      segments_of_all_messages-push e m,
      length-append (segments_of_all_messages e) (segments (n201 e.channel) m),
    )

pub Holds-push : (e : EndpointState) (m : Message) (held : List Message) (place : ℕ) → HasWindowOfOne e →
    HoldsUnackedMessages held place e →
    place ≤ length (flat_map (segments (n201 e.channel)) held) → HoldsUnackedMessages (held ++ m ∷ []) place (with_queued_message m e)
Holds-push e m held place end h within =
    let n = n201 e.channel in
    record {
      messages = rw (
        h.messages,
        acked_message_count-push e m end,
        drop-append-le (acked_message_count e) e.messages (m ∷ []) (acked_message_count-most e),
      );
      unacked_segments = rw (
        flat_map-append (segments n) held (m ∷ []),
        flat_map-append (segments n) e.messages (m ∷ []),
        append-nil (segments n m),
        drop-append-le place (flat_map (segments n) held) (segments n m) within,
        drop-append-le e.acked_segments (segments_of_all_messages e) (segments n m) (omega (
          arith,
          end.acked_at_most_sent,
          end.sent_segments,
        )),
        h.unacked_segments,
      );
    }

-- ---- the window when the next segment becomes outstanding

pub has_segment_to_send-left : (e : EndpointState) → HasWindowOfOne e → vs e ≡ va e →
    e.acked_segments < length (segments_of_all_messages e) →
    has_segment_to_send e ≡ true
has_segment_to_send-left e h same left = grind arith

pub HasWindowOfOne-next : (e : EndpointState) → HasWindowOfOne e → vs e ≡ va e →
    e.acked_segments < length (segments_of_all_messages e) →
    HasWindowOfOne (with_segment_sent e)
HasWindowOfOne-next e h same left = grind arith

-- ---- the window when the outstanding segment is acknowledged
pub HasWindowOfOne-acked : (e : EndpointState) → HasWindowOfOne e → HasWindowOfOne (with_segment_acked e)
HasWindowOfOne-acked e h = grind arith

pub Holds-more : (e : EndpointState) (held : List Message) (place : ℕ) → e.sent_segments ≡ e.acked_segments + 1 →
    HoldsUnackedMessages held place e →
    e.acked_segments < length (segments_of_all_messages e) → (first_unacked_segment e).1 ≡ true →
    HoldsUnackedMessages held (place + 1) (with_segment_acked e)
Holds-more e held place one h within more = record {
  messages = rw (acked_message_count-more e one within more) h.messages;
  unacked_segments = rw one (drop-next (flat_map (segments (n201 e.channel)) held) (segments_of_all_messages e) place e.acked_segments
      h.unacked_segments);
}

pub Holds-last : (e : EndpointState) (held : List Message) (place : ℕ) → e.sent_segments ≡ e.acked_segments + 1 →
    HoldsUnackedMessages held place e →
    e.acked_segments < length (segments_of_all_messages e) → (first_unacked_segment e).1 ≡ false → 1 ≤ length held →
    place + 1 ≡ length (segments (n201 e.channel) (get_or held 0 [])) → HoldsUnackedMessages (drop 1 held) 0 (with_segment_acked e)
Holds-last e held place one h within last some_held ends =
    let n = n201 e.channel in
    record {
      messages = rw (acked_message_count-last e one within last, h.messages) (drop-drop 1 (acked_message_count e) e.messages);
      unacked_segments = rw one (sym (other_segments n (place + 1) held some_held ends)
          ∙ drop-next (flat_map (segments n) held) (segments_of_all_messages e) place e.acked_segments h.unacked_segments);
    }

-- ---- what an N(R) acknowledges
pub nr_acknowledges_segment-not_waiting : (e : EndpointState) (nr : ℕ) → HasWindowOfOne e → vs e ≡ va e →
    nr_acknowledges_segment nr e ≡ false
nr_acknowledges_segment-not_waiting e nr h same = grind arith

pub nr_acknowledges_segment-other : (e : EndpointState) (nr : ℕ) → nr ≢ vs e → nr_acknowledges_segment nr e ≡ false
nr_acknowledges_segment-other e nr h = grind (arith, nat_tests)

pub nr_acknowledges_segment-waiting : (e : EndpointState) (nr : ℕ) → HasWindowOfOne e → vs e ≢ va e → nr ≡ vs e →
    nr_acknowledges_segment nr e ≡ true
nr_acknowledges_segment-waiting e nr h other same = grind arith

pub evaluates_nr-nothing : (e : EndpointState) (nr : ℕ) → nr_acknowledges_segment nr e ≡ false → (evaluates_nr nr e).new_state ≡ e
evaluates_nr-nothing e nr h = rw h

pub evaluates_nr-something : (e : EndpointState) (nr : ℕ) → nr_acknowledges_segment nr e ≡ true →
    (evaluates_nr nr e).new_state ≡ with_segment_acked e
evaluates_nr-something e nr h = grind arith

pub acknowledgement_by_nr-segment : (e : EndpointState) (nr : ℕ) → nr_acknowledges_segment nr e ≡ true →
    (first_unacked_segment e).1 ≡ true →
    acknowledgement_by_nr nr e ≡ V.Piece
acknowledgement_by_nr-segment e nr h more = rw (h, more)

pub acknowledgement_by_nr-message : (e : EndpointState) (nr : ℕ) → nr_acknowledges_segment nr e ≡ true →
    (first_unacked_segment e).1 ≡ false →
    acknowledgement_by_nr nr e ≡ V.Message (acked_message_number e)
acknowledgement_by_nr-message e nr h more = rw (h, more)

pub outstanding_segment-next : (e : EndpointState) (x : Segment) → awaits_ack e ≡ true → first_unacked_segment e ≡ x →
    Some x ≡ outstanding_segment e
outstanding_segment-next e x waiting next = rw (waiting, next)

pub acked-awaits_ack : (e : EndpointState) → awaits_ack (with_segment_acked e) ≡ false
acked-awaits_ack e = grind arith

-- in this module, window w represents endpoint e and has an outstanding segment
module _ {w : Window} {e : EndpointState} (h : Represents w e) (waits : w.vs ≢ w.va) where
  differ : vs e ≢ va e
  differ same = waits (h.variables.vs ∙ same ∙ sym h.variables.va)

  pub one_outstanding : e.sent_segments ≡ e.acked_segments + 1
  one_outstanding = one_sent e h.window_of_one differ

  pub nr_acknowledges_segment-vs : (nr : ℕ) → nr ≡ w.vs → nr_acknowledges_segment nr e ≡ true
  nr_acknowledges_segment-vs nr same = nr_acknowledges_segment-waiting e nr h.window_of_one differ (same ∙ h.variables.vs)

  pub acked-represents : {v : Window} {done place : ℕ} {held : List Message} (nr : ℕ) → nr ≡ w.vs →
      values_of v ≡ record (values_of w) { held = held; segment_index = place; va = w.vs; acked_messages = done; retries = 0 } →
      done ≡ capped_at_64_bits (acked_message_count (with_segment_acked e)) → HoldsUnackedMessages held place (with_segment_acked e) →
      Represents v (evaluates_nr nr e).new_state
  acked-represents {v} nr same values count holds =
      subst (Represents v) (sym (evaluates_nr-something e nr (nr_acknowledges_segment-vs nr same))) (record {
        window_of_one = HasWindowOfOne-acked e h.window_of_one;
        variables = grind arith;
        unacked_messages = grind arith;
        retries = grind (arith, acked-awaits_ack e);
      })
