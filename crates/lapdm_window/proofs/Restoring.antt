-- Which values a window can have: those that represent some endpoint, of which a history is constructed.
use Rattle.{
  lapdm_window.{
    specs.{Abstraction.{HasSameStateVariables, HoldsUnackedMessages, Represents}, Ends.{EndpointState, Mobile, acked_message_count}},
    specs.{Ends.{segments_of_all_messages, awaits_ack, capped_at_64_bits, va, vs}, Parts.{AreConsistent, WindowValues, values_of}},
    specs.declared.{Sapi.TheVariants.Zero, State.TheVariants.Open, window.Window.Window},
    proofs.Windows.{not_awaited, within_all, within_held, zero-div},
  },
  segmenting.{
    proofs.Lemmas.{count-all, count-append, count-whole, HasHistory-joiner, one_part, length-segments, IsN201-n201},
    specs.{Joining.message_count, Segments.{IsValidMessage, Message, Segment}},
    specs.{Segments.{number_of_segments, segments}, lapdm_frame.Layout.n201},
  },
  std.proofs.Common.{All, List, [], ap, arith, drop, get_or, inl, inr, length, not, refl, replicate, if◌then◌else◌, nat_eq, suc, sym},
  std.proofs.Common.{take, zero, ℕ, ◌%◌, ◌*◌, ◌++◌, ◌+◌, ◌-◌, ◌<◌, ◌^◌, ◌∙◌, ◌∷◌, ◌≡◌},
  std.proofs.{Common.{◌≤◌, ◌⊎◌}, Math.{Nat.mul-div_cancel, Seq.{drop-append-add, drop-append_seam, take-append-add}}},
  std.proofs.lemmas.{Bool.{Decides.nat_tests, cases_lt}, List.{Concat.flat_map-append, Elements.{All-append, All-cons, All-nil}}},
  std.{proofs.lemmas.List.{length-append, length-drop, length-replicate, length-take}, specs.List.flat_map},
}

-- ## Histories: For given contents of a window, there is a history that leads to them: first `done` acknowledged messages, of which the
-- first is long enough to bring V(A) to its value, then the messages that the window holds.

-- d messages of one octet each, so each has one segment
abbrev one_octet_messages : ℕ → List Message
one_octet_messages zero = []
one_octet_messages (suc d) = (0 ∷ []) ∷ one_octet_messages d

one_octet_messages-valid : (d : ℕ) → All IsValidMessage (one_octet_messages d)
one_octet_messages-valid zero = All-nil IsValidMessage
one_octet_messages-valid (suc d) = grind (arith, one_octet_messages-valid d)

length-one_octet_messages : (d : ℕ) → length (one_octet_messages d) ≡ d
length-one_octet_messages zero = refl
length-one_octet_messages (suc d) = omega (arith, length-one_octet_messages d)

segments-one_octet_messages : (n d : ℕ) → 0 < n → length (flat_map (segments n) (one_octet_messages d)) ≡ d
segments-one_octet_messages n zero room = refl
segments-one_octet_messages n (suc d) room =
    omega (
      arith,
      length-append (segments n (0 ∷ [])) (flat_map (segments n) (one_octet_messages d)),
      length-segments n (0 ∷ []),
      zero-div n room,
      segments-one_octet_messages n d room,
    )

-- a message that has k + 1 segments if each segment carries at most n octets
abbrev pub message_of : ℕ → ℕ → Message
message_of n k = replicate (k * n + 1) 0

length-message_of : (n k : ℕ) → length (message_of n k) ≡ k * n + 1
length-message_of n k = length-replicate {A = ℕ} (k * n + 1) 0

pub segments-message_of : (n k : ℕ) → 0 < n → length (segments n (message_of n k)) ≡ k + 1
segments-message_of n k room = grind (arith, length-message_of n k, length-segments n (message_of n k), mul-div_cancel k room)

few_octets : (n k : ℕ) → n ≤ 20 → k ≤ 7 → k * n ≤ 140
few_octets n k room few = grind arith

pub is_message_of : (n k : ℕ) → n ≤ 20 → k ≤ 7 → IsValidMessage (message_of n k)
is_message_of n k room few = grind (arith, length-message_of n k, few_octets n k room few)

-- there are `done` messages such that V(A) is `va` after all their segments and `place` further segments are acknowledged
pub record HasAckedMessages (n done va place : ℕ) : Type 0 where
  pub front : List Message
  pub messages : All IsValidMessage front
  pub count : length front ≡ done
  pub number : (length (flat_map (segments n) front) + place) % 8 ≡ va

missing : (va b : ℕ) → va ≤ 7 → ((va + 15 - b % 8) % 8 + 1 + b) % 8 ≡ va
missing va b few = grind arith

HasAckedMessages-exists : (n done va place : ℕ) → 1 ≤ n → n ≤ 20 → va ≤ 7 → (done ≡ 0 → va ≡ place % 8) →
    HasAckedMessages n done va place
HasAckedMessages-exists n zero va place room most few none = grind (arith, All-nil IsValidMessage)
HasAckedMessages-exists n (suc d) va place room most few none =
    let k = (va + 15 - (d + place) % 8) % 8 in
    let some : k ≤ 7 = omega arith in
    let m = message_of n k in
    let size : length (flat_map (segments n) (m ∷ one_octet_messages d)) + place ≡ k + 1 + (d + place) = omega (
      arith,
      length-append (segments n m) (flat_map (segments n) (one_octet_messages d)),
      segments-message_of n k room,
      segments-one_octet_messages n d room,
    ) in
    record {
      front = m ∷ one_octet_messages d;
      messages = All-cons IsValidMessage m (one_octet_messages d) (is_message_of n k most some) (one_octet_messages-valid d);
      count = omega (arith, length-one_octet_messages d);
      number = ap (λ i. i % 8) size ∙ missing va (d + place) few;
    }

ended_before : (n place : ℕ) (held : List Message) → 0 < n → place < number_of_segments n (get_or held 0 []) →
    message_count (take place (flat_map (segments n) held)) ≡ 0
ended_before n zero [] room h = refl
ended_before n (suc place) [] room h = refl
ended_before n place (m ∷ ms) room h =
    let front : length (segments n m ++ []) ≡ number_of_segments n m =
    omega (arith, length-append (segments n m) [], length-segments n m) in
    let not_one : 1 ≤ message_count (take place (flat_map (segments n) (m ∷ ms))) → ⊥ = λ one. omega
    (arith, front, h, (count-whole n place 1 (m ∷ ms) (omega arith)).0 one) in
    omega (arith, not_one)

-- after the first `acked` segments of the messages `taken` are acknowledged, V(A) is `va`, `done` messages are fully acknowledged, and the
-- unacknowledged segments are those of `held` from index `place` on
pub record IsHistory (n done va place sent : ℕ) (held taken : List Message) (acked : ℕ) : Type 0 where
  pub messages : All IsValidMessage taken
  pub in_range : acked + sent ≤ length (flat_map (segments n) taken)
  pub number : acked % 8 ≡ va
  pub acked_count : message_count (take acked (flat_map (segments n) taken)) ≡ done
  pub held_rest : held ≡ drop done taken
  pub next_segments : drop place (flat_map (segments n) held) ≡ drop acked (flat_map (segments n) taken)

pub record HasHistory (n done va place sent : ℕ) (held : List Message) : Type 0 where
  pub messages : List Message
  pub acked_segments : ℕ
  pub history : IsHistory n done va place sent held messages acked_segments

pub history_of : (n done va place sent : ℕ) (held : List Message) → 1 ≤ n → n ≤ 20 → va ≤ 7 → All IsValidMessage held →
    place < number_of_segments n (get_or held 0 []) → place + sent ≤ length (flat_map (segments n) held) →
    (done ≡ 0 → va ≡ place % 8) →
    HasHistory n done va place sent held
history_of n done va place sent held room most few messages below within none =
    let f = HasAckedMessages-exists n done va place room most few none in
    let p = flat_map (segments n) f.front in
    let q = flat_map (segments n) held in
    let all : flat_map (segments n) (f.front ++ held) ≡ p ++ q = flat_map-append (segments n) f.front held in
    let acked = length p + place in
    record {
      messages = f.front ++ held;
      acked_segments = acked;
      history = record {
        messages = All-append IsValidMessage f.front held f.messages messages;
        in_range = omega (arith, ap length all, length-append p q, within);
        number = f.number;
        acked_count = rw (all, take-append-add p q place, count-append p (take place q), ended_before n place held room below)
            (omega (arith, count-all n f.front, f.count));
        held_rest = sym (ap (λ i. drop i (f.front ++ held)) (sym f.count) ∙ drop-append_seam f.front held);
        next_segments = rw all (sym (drop-append-add p q place));
      };
    }

-- ## Parts: A window represents some endpoint if and only if its values satisfy `AreConsistent`. The section Histories constructs the
-- history of that endpoint.

pub HasSameStateVariables-values : {w v : Window} {e : EndpointState} → values_of w ≡ values_of v → HasSameStateVariables w e →
    HasSameStateVariables v e
HasSameStateVariables-values {w} {v} {e} same h = grind arith

pub Represents-values : {w v : Window} {e : EndpointState} → values_of w ≡ values_of v → Represents w e → Represents v e
Represents-values {w} {v} {e} same h = grind arith

one_segment : (w : Window) (e : EndpointState) → Represents w e →
    (w.vs ≡ w.va) ⊎ ((w.vs ≡ (w.va + 1) % 8) × (1 ≤ length w.held.items))
one_segment w e h =
    elim (cases_lt e.acked_segments e.sent_segments) [
      | inl more ↦
          let one : e.sent_segments ≡ e.acked_segments + 1 = omega (arith, h.window_of_one.window) in
          let number : w.vs ≡ (w.va + 1) % 8 = h.variables.vs ∙ ap (λ i. i % 8) one ∙ next e.acked_segments w.va h.variables.va in
          inr (number, w.waiting (λ same. differs_from_next w.va (sym same ∙ number)))
      | inr none ↦
          let same : e.sent_segments ≡ e.acked_segments = omega (arith, h.window_of_one.acked_at_most_sent) in
          inl (h.variables.vs ∙ ap (λ i. i % 8) same ∙ sym h.variables.va)
    ]
  where
    next : (n v : ℕ) → v ≡ n % 8 → (n + 1) % 8 ≡ (v + 1) % 8
    next n v h = grind arith

    differs_from_next : (v : ℕ) → v ≡ (v + 1) % 8 → ⊥
    differs_from_next v h = grind arith

place_is_counted : (w : Window) (e : EndpointState) → Represents w e → w.acked_messages ≡ 0 → w.va ≡ w.segment_index % 8
place_is_counted w e h none =
    let n = n201 e.channel in
    let whole : acked_message_count e ≡ 0 = omega (arith, h.variables.acked_messages) in
    let held : w.held.items ≡ e.messages = h.unacked_messages.messages ∙ ap (λ i. drop i e.messages) whole in
    let below : w.segment_index < number_of_segments n (get_or w.held.items 0 []) = omega
    (arith, w.in_range, ap (λ c. number_of_segments (n201 c) (get_or w.held.items 0 [])) h.variables.channel) in
    let place : w.segment_index ≤ length (segments_of_all_messages e) = omega (
      arith,
      within_held n w.segment_index w.held.items (IsN201-n201 e.channel).positive below,
      ap (λ ms. length (flat_map (segments n) ms)) held,
    ) in
    let same : w.segment_index ≡ e.acked_segments = omega (
      arith,
      ap length h.unacked_messages.unacked_segments,
      length-drop w.segment_index (flat_map (segments n) w.held.items),
      length-drop e.acked_segments (segments_of_all_messages e),
      ap (λ ms. length (flat_map (segments n) ms)) held,
      place,
      h.window_of_one.sent_segments,
      h.window_of_one.acked_at_most_sent,
    ) in
    h.variables.va ∙ ap (λ i. i % 8) (sym same)

no_repeats : (w : Window) (e : EndpointState) → Represents w e → w.vs ≡ w.va → w.retries ≡ 0
no_repeats w e h same =
    h.retries ∙ ap (λ b. if b then e.retries else 0) (not_awaited e h.window_of_one (sym h.variables.vs ∙ same ∙ h.variables.va))

pub is_consistent : (w : Window) (e : EndpointState) → Represents w e → AreConsistent (values_of w)
is_consistent w e h = record {
  held = record { at_most_8 = w.at_most_8; messages = w.messages };
  segment_index_in_range = w.in_range;
  at_most_one_outstanding = one_segment w e h;
  va = w.va_fits;
  vr = w.vr_fits;
  va_if_nothing_acked = place_is_counted w e h;
  no_repeats_if_none_outstanding = no_repeats w e h;
  reassembly_fits = omega (arith, length-take w.joiner.len w.joiner.octets, w.joiner.in_range);
}

-- the number of outstanding segments, which is 0 or 1
record OutstandingCount (x : WindowValues) : Type 0 where
  pub sent : ℕ
  pub at_most_1 : sent ≤ 1
  pub number : x.vs ≡ (x.va + sent) % 8
  pub held : (sent ≡ 0) ⊎ (1 ≤ length x.held)

OutstandingCount-exists : (x : WindowValues) → x.va ≤ 7 → (x.vs ≡ x.va) ⊎ ((x.vs ≡ (x.va + 1) % 8) × (1 ≤ length x.held)) →
    OutstandingCount x
OutstandingCount-exists x h g = grind arith

segments_fit : (n place sent : ℕ) (held : List Message) → 0 < n → place < number_of_segments n (get_or held 0 []) → sent ≤ 1 →
    (sent ≡ 0) ⊎ (1 ≤ length held) → place + sent ≤ length (flat_map (segments n) held)
segments_fit n place sent held room below few (inl none) = omega (arith, within_held n place held room below)
segments_fit n place sent held room below few (inr some) =
    omega (arith, within_all n place held some (omega (arith, below, length-segments n (get_or held 0 []))))

sent_number : (acked va sent : ℕ) → acked % 8 ≡ va → (va + sent) % 8 ≡ (acked + sent) % 8
sent_number acked va sent h = grind arith

counts_repeats : (retries acked sent vs va : ℕ) → (vs ≡ va → retries ≡ 0) → vs ≡ (va + sent) % 8 → va ≤ 7 →
    retries ≡ (if not (nat_eq (acked + sent) acked) then retries else 0)
counts_repeats retries acked zero vs va none number few = grind (arith, nat_tests)
counts_repeats retries acked (suc sent) vs va none number few = grind (arith, nat_tests)

capped-fits : (n : ℕ) → n < 2 ^ 64 → n ≡ capped_at_64_bits n
capped-fits n h = omega arith

abbrev with_history : Window → List Message → ℕ → ℕ → List Segment → EndpointState
with_history w taken acked sent accepted = record {
  role = Mobile;
  sapi = Zero;
  channel = w.channel;
  state = Open;
  sabm_info = [];
  messages = taken;
  acked_segments = acked;
  sent_segments = sent;
  accepted_segments = accepted;
  rejecting = w.rejecting;
  retries = w.retries;
}

abbrev pub RepresentsOne : Window → Type 0
RepresentsOne w = (e : EndpointState) × Represents w e

pub represents_one : (w : Window) → AreConsistent (values_of w) → w.acked_messages < 2 ^ 64 → RepresentsOne w
represents_one w h fits =
    let n = n201 w.channel in
    let room = IsN201-n201 w.channel in
    let awaits_ack = OutstandingCount-exists (values_of w) h.va h.at_most_one_outstanding in
    let in_past = history_of n w.acked_messages w.va w.segment_index awaits_ack.sent w.held.items room.positive room.at_most h.va
    h.held.messages h.segment_index_in_range
    (segments_fit n w.segment_index awaits_ack.sent w.held.items room.positive h.segment_index_in_range awaits_ack.at_most_1
    awaits_ack.held)
    h.va_if_nothing_acked in
    let past : IsHistory n w.acked_messages w.va w.segment_index awaits_ack.sent w.held.items in_past.messages in_past.acked_segments =
    in_past.history in
    let came = HasHistory-joiner w.joiner w.vr h.vr in (
      with_history w in_past.messages in_past.acked_segments (in_past.acked_segments + awaits_ack.sent) came.taken,
      record {
        window_of_one = record {
          messages = past.messages;
          sent_segments = past.in_range;
          acked_at_most_sent = omega arith;
          window =
              omega (arith, awaits_ack.at_most_1);
        };
        variables = record {
          channel = refl;
          vs = awaits_ack.number ∙ sent_number in_past.acked_segments w.va awaits_ack.sent past.number;
          va = sym past.number;
          vr = sym came.count;
          acked_messages = capped-fits w.acked_messages fits ∙ ap capped_at_64_bits (sym past.acked_count);
          rejecting = refl;
          reassembly = came.reassembly;
        };
        unacked_messages = record {
          messages = past.held_rest ∙ ap (λ i. drop i in_past.messages) (sym past.acked_count);
          unacked_segments =
              past.next_segments;
        };
        retries = counts_repeats w.retries in_past.acked_segments awaits_ack.sent w.vs w.va h.no_repeats_if_none_outstanding
            awaits_ack.number h.va;
      },
    )

-- ## OneState: An endpoint determines the values of each window that holds its variables and its unacknowledged messages.

same_place : (xs : List Segment) (i j : ℕ) → i ≤ length xs → j ≤ length xs → drop i xs ≡ drop j xs → i ≡ j
same_place xs i j below within same = omega (arith, ap length same, length-drop i xs, length-drop j xs)

pub one_window : (w v : Window) (e : EndpointState) → HasSameStateVariables w e → HasSameStateVariables v e →
    HoldsUnackedMessages w.held.items w.segment_index e → HoldsUnackedMessages v.held.items v.segment_index e →
    w.retries ≡ v.retries → values_of w ≡ values_of v
one_window w v e h g holds keeps repeats =
    let n = n201 e.channel in
    let room = (IsN201-n201 e.channel).positive in
    let held : w.held.items ≡ v.held.items = holds.messages ∙ sym keeps.messages in
    let joined = one_part w.joiner.part v.joiner.part (take w.joiner.len w.joiner.octets) (take v.joiner.len v.joiner.octets)
    e.accepted_segments h.reassembly g.reassembly in
    let below = within_held n w.segment_index w.held.items room (rw h.channel at w.in_range) in
    let within = within_held n v.segment_index v.held.items room (rw g.channel at v.in_range) in
    let place : w.segment_index ≡ v.segment_index = same_place (flat_map (segments n) v.held.items) w.segment_index v.segment_index
    (rw held at below) within (rw held at holds.unacked_segments ∙ sym keeps.unacked_segments) in
    λ i. record {
      channel = (h.channel ∙ sym g.channel) i;
      held = held i;
      segment_index = place i;
      vs = (h.vs ∙ sym g.vs) i;
      va = (h.va ∙ sym g.va) i;
      vr = (h.vr ∙ sym g.vr) i;
      acked_messages = (h.acked_messages ∙ sym g.acked_messages) i;
      rejecting = (h.rejecting ∙ sym g.rejecting) i;
      retries = repeats i;
      joiner = record { octets = joined.1 i; part = joined.0 i };
    }
