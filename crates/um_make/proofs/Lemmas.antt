-- Generated sessions: their events, their length and their counters.
use Rattle.{
  std.{
    proofs.{
      Common.{inl, inr, rules, All, Bool, List, None, Option, Result, Some, [], append_assoc, ap, arith, false, if◌then◌else◌},
      Common.{is_some, length-append, length, map, nat_eq, refl, suc, sum, sym, true, zero, ℕ, ◌%◌, ◌&&◌, ◌*◌, ◌++◌},
      Common.{◌+◌, ◌-◌, ◌<◌, ◌^◌, ◌∙◌, ◌∷◌, ◌≡◌, ◌≤◌},
      lemmas.{Bool.cases_Bool, List.{Elements.{All-map, All-cons, All-nil, filter_map-append}, FromFn.length-map-range_with_len}},
      lemmas.List.{Sums.{sum_by-append, sum_by_push}, append-nil},
    },
    specs.List.{filter_map, range_with_len, sum_by},
  },
  um_link.{
    proofs.um_air.Lemmas.{air_counts, air_step_only, few_inverted_is_benign, some_run},
    specs.{
      Abstraction.Represents,
      Naming.spec_answer_of,
      Sessions.{ExtendsSession, IsWorldAfterEvents},
      declared.{events.{No.No, Step.Step}, links.WorldState.WorldState},
      lapdm_frame.declared.Channel.TheVariants.Sdcch,
      lapdm_link.{
        Claims.{AckedAtMostDelivered, LogLine, Notified, acked_number_in_notice, answer_log_lines, message_in_got_notice, is_same_role},
        Claims.{is_same_sapi, notice_in_line, notice_log_lines, notices_in_log},
        Events.{Ask, BySide, Deliver, Lose, Nobody, Open, OtherMobile, Send, T200Expiry, Who, other},
      },
      lapdm_window.{Ends.{Mobile, Network, Role}, declared.{Notice.Notice, Sapi.{TheVariants.Zero, Sapi}}, segmenting.Segments.Message},
      um_air.{
        Air.{AirState, Accepts, Answer, Event, IsAirRun, Refuses, initial_session},
        Sessions.{EventMessageIsOctets, AllEventsInvertFewBits, IsBenign, answer_without_blocks, session_log},
        Counts.{arrival_count, blocks_received_in_step, sent_frame_count},
      },
      um_block.declared.received.Received.Received,
    },
  },
  um_make.specs.{
    Counting.{CountersAreAtMost, CountersGrowAtMost, CountsNotices, CountsStep, one_if_true, sapi0_notices_in_answer},
    Counting.sapi0_notices_of_side,
    Courses.pending_events,
    Generated.{events_after_transmission, generated_events, is_lost_transmission, last_transmission_number, last_transmission_of_segment},
    Generated.{message_length, messages, message, message_segment_count, segment_transmissions, segment_transmission, sender},
    Runs.{AckedAtMostReceived, IsGeneratedSession, answers_to, generated_answers, generated_summary},
    Summaries.{crc_fails, endpoint_summary, session_summary, crc_passes, is_loss_event, reports_bad_crc, reports_good_crc},
    declared.{course.SessionStage.{TheVariants.SendNext, SessionStage}, end_summary.EndpointSummary.EndpointSummary},
    declared.summary.Summary.Summary,
  },
}

-- ## Sizes: The generated events invert at most three bits of each block, and their messages consist of octets. A message has at most 13
-- segments, a segment takes at most two transmissions, and a transmission has two events.

record AreBounded (most : ℕ) (es : List Event) : Type 0 where
  few : AllEventsInvertFewBits es
  size : length es ≤ most

bounded-append : {a b : ℕ} {es fs : List Event} (n : ℕ) → AreBounded a es → AreBounded b fs → a + b ≤ n →
    AreBounded n (es ++ fs)
bounded-append {a} {b} {es} {fs} n h k within = record {
  few = few-append es h.few;
  size = omega (arith, length-append es fs, h.size, k.size);
}
  where
    few-append : (xs : List Event) → AllEventsInvertFewBits xs → AllEventsInvertFewBits (xs ++ fs)
    few-append [] few = k.few
    few-append (x ∷ xs) few = (few.0, few.1, few-append xs few.2)

bounded-transmission : (r : Role) (c : ℕ) → AreBounded 2 (segment_transmission r c)
bounded-transmission r c = by (is_lost_transmission c) (nat_eq (c % 8) 4)
  where
    by : (lost flipped : Bool) →
        AreBounded 2 (if lost then Lose r ∷ Ask r Zero T200Expiry ∷ [] else Deliver r
        (if flipped then 7 * c % 592 ∷ (7 * c + 1) % 592 ∷ (7 * c + 50) % 592 ∷ [] else []) ∷ Deliver (other r) [] ∷ [])
    by true flipped = record { few = (tt, tt, (tt, tt, tt)); size = omega arith }
    by false true = record { few = (omega arith, tt, (omega arith, tt, tt)); size = omega arith }
    by false false = record { few = (omega arith, tt, (omega arith, tt, tt)); size = omega arith }

bounded-resend : (r : Role) (c : ℕ) (lost : Bool) → AreBounded 2 (if lost then segment_transmission r (c + 1) else [])
bounded-resend r c true = bounded-transmission r (c + 1)
bounded-resend r c false = record { few = tt; size = omega arith }

bounded-segments : (r : Role) (segments c : ℕ) → AreBounded (4 * segments) (segment_transmissions r segments c)
bounded-segments r zero c = record { few = tt; size = omega arith }
bounded-segments r (suc segments) c =
    bounded-append (4 * suc segments)
    (bounded-append 4 (bounded-transmission r (c + 1)) (bounded-resend r (c + 1) (is_lost_transmission (c + 1))) (omega arith))
    (bounded-segments r segments (last_transmission_of_segment (c + 1))) (omega arith)

bounded-messages : (more i c : ℕ) → AreBounded (53 * more) (messages more i c)
bounded-messages zero i c = record { few = tt; size = omega arith }
bounded-messages (suc more) i c =
    let size : length (message i) ≡ message_length i = length-map-range_with_len (λ j. (i + j) % 256) 0 (message_length i) in
    let all = bounded-append (52 + 53 * more) (bounded-segments (sender i) (message_segment_count i) c)
    (bounded-messages more (i + 1) (last_transmission_number (message_segment_count i) c)) (omega arith) in
    let octets = All-map (λ octet. octet < 256) (λ j. (i + j) % 256) (range_with_len 0 (message_length i)) (λ k d lt. omega arith) in
    record { few = (tt, octets, all.few); size = omega (arith, all.size) }

pub few_inverted-generated : (n : ℕ) → AllEventsInvertFewBits (generated_events n)
few_inverted-generated n = (
  tt,
  All-cons (λ octet. octet < 256) 1 [] (let e : 1 < 256 = omega arith in e) (All-nil (λ octet. octet < 256)),
  (omega arith, tt, (omega arith, tt, (bounded-messages n 1 0).few)),
)

-- ## Courses: The events that remain at each stage of a generated session.

pub sent : (stage : SessionStage) (messages_left number segments c : ℕ) (r : Role) (m : Message) (p : ℕ) → stage ≡ SendNext →
    segments ≡ 0 → 0 < messages_left → r ≡ sender (number + 1) → m ≡ message (number + 1) →
    p ≡ message_segment_count (number + 1) →
    pending_events stage (sender number) ++ events_after_transmission messages_left number segments c ≡ Ask r Zero (Send m)
    ∷ pending_events stage (sender
    (number + 1))
    ++ events_after_transmission (messages_left - 1)
    (number + 1) p c
sent stage zero number segments c r m p at none some role octets count = absurd (omega arith)
sent stage (suc k) number segments c r m p at none some role octets count =
    let back : suc k - 1 ≡ k = omega arith in rw (at, none, role, octets, count, back) refl

-- ## Counting: Counting two lists of notices one after the other gives the same counters as counting the concatenated list.

got_notices-sum : (f : List ℕ → ℕ) (xs ys : List Notice) →
    sum_by f (filter_map message_in_got_notice (xs ++ ys)) ≡ sum_by f (filter_map message_in_got_notice xs) + sum_by f
    (filter_map message_in_got_notice ys)
got_notices-sum f xs ys = ap (sum_by f) (filter_map-append message_in_got_notice xs ys)
    ∙ sum_by-append f (filter_map message_in_got_notice xs) (filter_map message_in_got_notice ys)

pub counts-append : (xs ys : List Notice) (a b c : EndpointSummary) → CountsNotices xs a b → CountsNotices ys b c →
    CountsNotices (xs ++ ys) a c
counts-append xs ys a b c h k = record {
  messages_got = omega (
    arith,
    h.messages_got,
    k.messages_got,
    ap length (filter_map-append message_in_got_notice xs ys),
    length-append (filter_map message_in_got_notice xs) (filter_map message_in_got_notice ys),
  );
  octets = omega (arith, h.octets, k.octets, got_notices-sum (λ m. length m) xs ys);
  octet_sum = omega (arith, h.octet_sum, k.octet_sum, got_notices-sum (λ m. sum m) xs ys);
  acked_messages = omega (
    arith,
    h.acked_messages,
    k.acked_messages,
    ap length (filter_map-append acked_number_in_notice xs ys),
    length-append (filter_map acked_number_in_notice xs) (filter_map acked_number_in_notice ys),
  );
}

-- ## Tallying: The summary counts the blocks that the radio counts.

pub same_block_count : (answer : Answer) →
    one_if_true (reports_good_crc answer) + one_if_true (reports_bad_crc answer) ≡ blocks_received_in_step answer
same_block_count (Accepts step) = by step.received
  where
    by : (report : Option Received) → one_if_true (crc_passes report) + one_if_true (crc_fails report) ≡ arrival_count report
    by None = refl
    by (Some r) = elim (cases_Bool (is_some r.accepted)) [ inl good ↦ rw good refl | inr bad ↦ rw bad refl ]
same_block_count (Refuses why) = refl

-- ## Totals: The counters of a session with one more event are the earlier counters plus the counts of this event.

session_log-push : (es : List Event) (answers : List Answer) (e : Event) (a : Answer) → length answers ≡ length es →
    session_log (es ++ e ∷ []) (answers ++ a ∷ []) ≡ session_log es answers ++ session_log (e ∷ []) (a ∷ [])
session_log-push [] [] e a same = refl
session_log-push (x ∷ es) (y ∷ answers) e a same =
    let first : List LogLine = answer_log_lines x (answer_without_blocks y) in
    ap (λ (ls : List LogLine). first ++ ls) (session_log-push es answers e a (omega arith))
    ∙ sym (append_assoc first (session_log es answers) (session_log (e ∷ []) (a ∷ [])))
session_log-push es answers e a same = absurd (omega arith)

Notified-notices : (r role : Role) (s : Sapi) (b : Bool) → (is_same_role r role && is_same_sapi Zero s) ≡ b → (ns : List Notice) →
    filter_map (notice_in_line r Zero) (map (Notified role s) ns ++ []) ≡ (if b then ns else [])
Notified-notices r role s true e [] = refl
Notified-notices r role s false e [] = refl
Notified-notices r role s true e (n ∷ ns) = rw e (ap (λ (ms : List Notice). n ∷ ms) (Notified-notices r role s true e ns))
Notified-notices r role s false e (n ∷ ns) = rw e (Notified-notices r role s false e ns)

line_notices : (r : Role) (who : Who) (s : Sapi) (ns : List Notice) →
    filter_map (notice_in_line r Zero) (notice_log_lines who s ns ++ []) ≡ sapi0_notices_of_side r who s ns
line_notices r (BySide role) s ns = Notified-notices r role s (is_same_role r role && is_same_sapi Zero s) refl ns
line_notices r OtherMobile s ns = refl
line_notices r Nobody s ns = refl

event_notices : (r : Role) (e : Event) (a : Answer) →
    notices_in_log r Zero (session_log (e ∷ []) (a ∷ [])) ≡ sapi0_notices_in_answer r a
event_notices r e (Refuses why) = refl
event_notices r (Open info) (Accepts step) = line_notices r step.who step.sapi step.notices
event_notices r e (Accepts step) = line_notices r step.who step.sapi step.notices

same_endpoint_summary : (a b : EndpointSummary) → a.messages_got ≡ b.messages_got → a.octets ≡ b.octets →
    a.octet_sum ≡ b.octet_sum →
    a.acked_messages ≡ b.acked_messages → a ≡ b
same_endpoint_summary a b messages octets octet_sum acked = grind arith

end_summary-push : (r : Role) (es : List Event) (answers : List Answer) (e : Event) (a : Answer) (old new : EndpointSummary) →
    length answers ≡ length es → old ≡ endpoint_summary r (session_log es answers)
    → CountsNotices (sapi0_notices_in_answer r a) old new →
    new ≡ endpoint_summary r (session_log (es ++ e ∷ []) (answers ++ a ∷ []))
end_summary-push r es answers e a old new same h t =
    let said = notices_in_log r Zero (session_log es answers) in
    let none : EndpointSummary = record { messages_got = 0; octets = 0; octet_sum = 0; acked_messages = 0 } in
    let before : CountsNotices said none old = record {
      messages_got = omega (arith, ap (λ (s : EndpointSummary). s.messages_got) h);
      octets = omega (arith, ap (λ (s : EndpointSummary). s.octets) h);
      octet_sum = omega (arith, ap (λ (s : EndpointSummary). s.octet_sum) h);
      acked_messages = omega (arith, ap (λ (s : EndpointSummary). s.acked_messages) h);
    } in
    let all = counts-append said (sapi0_notices_in_answer r a) none old new before t in
    let both : notices_in_log r Zero (session_log (es ++ e ∷ []) (answers ++ a ∷ [])) ≡ said ++ sapi0_notices_in_answer r a =
    ap (filter_map (notice_in_line r Zero)) (session_log-push es answers e a same)
    ∙ filter_map-append (notice_in_line r Zero) (session_log es answers) (session_log (e ∷ []) (a ∷ []))
    ∙ ap (λ (ns : List Notice). said ++ ns) (event_notices r e a) in
    same_endpoint_summary new _ (rw both (omega (arith, all.messages_got))) (rw both (omega (arith, all.octets)))
    (rw both (omega (arith, all.octet_sum))) (rw both (omega (arith, all.acked_messages)))

same_summary : (s t : Summary) → s.steps ≡ t.steps → s.sent_blocks ≡ t.sent_blocks → s.good_blocks ≡ t.good_blocks →
    s.bad_blocks ≡ t.bad_blocks → s.lost_blocks ≡ t.lost_blocks → s.mobile ≡ t.mobile → s.network ≡ t.network → s ≡ t
same_summary s t steps sent good bad lost mobile network = grind arith

session_summary-push : (es : List Event) (answers : List Answer) (e : Event) (a : Answer) (old new : Summary) →
    length answers ≡ length es → old ≡ session_summary es answers → CountsStep e a old new →
    new ≡ session_summary (es ++ e ∷ []) (answers ++ a ∷ [])
session_summary-push es answers e a old new same h k = same_summary new _
    (omega (arith, ap (λ (s : Summary). s.steps) h, k.steps, length-append es (e ∷ [])))
    (omega (arith, ap (λ (s : Summary). s.sent_blocks) h, k.sent_blocks, sum_by_push sent_frame_count answers a))
    (omega (arith, ap (λ (s : Summary). s.good_blocks) h, k.good_blocks, sum_by_push (λ x. one_if_true (reports_good_crc x)) answers a))
    (omega (arith, ap (λ (s : Summary). s.bad_blocks) h, k.bad_blocks, sum_by_push (λ x. one_if_true (reports_bad_crc x)) answers a))
    (omega (arith, ap (λ (s : Summary). s.lost_blocks) h, k.lost_blocks, sum_by_push (λ x. one_if_true (is_loss_event x)) es e))
    (end_summary-push Mobile es answers e a old.mobile new.mobile same (ap (λ (s : Summary). s.mobile) h) k.mobile)
    (end_summary-push Network es answers e a old.network new.network same (ap (λ (s : Summary). s.network) h) k.network)

-- ## OneSession: The events of a generated session determine its answers.

octets_of_few_inverted : (events : List Event) → AllEventsInvertFewBits events → All EventMessageIsOctets events
octets_of_few_inverted [] few_inverted = All-nil EventMessageIsOctets
octets_of_few_inverted (event ∷ events) few_inverted = All-cons EventMessageIsOctets event events few_inverted.1
    (octets_of_few_inverted events few_inverted.2)

answers_to-only : (a : AirState) (events : List Event) (answers : List Answer) (b : AirState) → IsAirRun a events answers b →
    answers ≡ answers_to a events
answers_to-only a [] [] b run = refl
answers_to-only a (event ∷ events) (answer ∷ answers) b (mid, step, run) =
    rw (air_step_only a event mid answer step) (ap (λ (xs : List Answer). answer ∷ xs) (answers_to-only mid events answers b run))
answers_to-only a events answers b run = absurd assumption

generated_answers-only : (tsc n : ℕ) (answers : List Answer) (last : AirState) →
    IsAirRun (initial_session tsc Sdcch) (generated_events n) answers last → answers ≡ generated_answers tsc n
unfolding generated_answers
generated_answers-only tsc n answers last run = answers_to-only (initial_session tsc Sdcch) (generated_events n) answers last run

pub generated_session : (n tsc : ℕ) → tsc ≤ 7 → IsGeneratedSession tsc n
generated_session n tsc within =
    let few = few_inverted-generated n in
    let (answers, last, run) = some_run tsc Sdcch (generated_events n) within (octets_of_few_inverted (generated_events n) few) in
    record {
      last_state = last;
      run = rw (← generated_answers-only tsc n answers last run) run;
      only = generated_answers-only tsc n;
    }

-- ## CountedEvents: After each event of a generated session, its answer is counted. No counter overflows, because an event raises a counter
-- by at most 192,015.

counters-grow : (n k m : ℕ) (old new : Summary) → n + k ≤ m → CountersAreAtMost n old → CountersGrowAtMost k old new →
    CountersAreAtMost m new
counters-grow n k m old new within h g = search rules

zero_growth : (s : Summary) → CountersGrowAtMost 0 s s
zero_growth s = search rules

-- the events `script_events` except `remaining_events` have led to `world`, and `counters` counts them and their answers
pub record IsRunInProgress (tsc : ℕ) (script_events remaining_events : List Event) (world : WorldState) (counters : Summary) : Type 0
  where
    pub events : List Event
    pub answers : List Answer
    pub state : AirState
    pub script_events_split : script_events ≡ events ++ remaining_events
    pub one_answer_per_event : length answers ≡ length events
    pub world_after_events : IsWorldAfterEvents tsc Sdcch events answers state world
    pub summary : counters ≡ session_summary events answers
    pub counters_bounded : CountersAreAtMost (192015 * length events) counters

pub progress-start : (tsc : ℕ) (all script : List Event) (world : WorldState) (s : Summary) → all ≡ script →
    Represents world (initial_session tsc Sdcch) → s ≡ session_summary [] [] → CountersAreAtMost 0 s →
    IsRunInProgress tsc all script world s
progress-start tsc all script world s same represents counts bounded = record {
  events = [];
  answers = [];
  state = initial_session tsc Sdcch;
  script_events_split = same;
  one_answer_per_event = refl;
  world_after_events = record { run = refl; represents = represents };
  summary = counts;
  counters_bounded = bounded;
}

pub progress-step : (tsc : ℕ) (all script others : List Event) (world next : WorldState) (s t : Summary) (e : Event)
    (r : Result Step No) →
    IsRunInProgress tsc all script world s → script ≡ e ∷ others → ExtendsSession e world r next →
    CountsStep e (spec_answer_of r) s t →
    CountersGrowAtMost 192015 s t →
    IsRunInProgress tsc all others next t
progress-step tsc all script others world next s t e r h first goes counts rises =
    let to = goes tsc Sdcch h.events h.answers h.state h.world_after_events in
    record {
      events = h.events ++ e ∷ [];
      answers = h.answers ++ spec_answer_of r ∷ [];
      state = to.0;
      script_events_split = h.script_events_split ∙ ap (λ (es : List Event). h.events ++ es) first
          ∙ sym (append_assoc h.events (e ∷ []) others);
      one_answer_per_event = omega (
        arith,
        h.one_answer_per_event,
        length-append h.answers (spec_answer_of r ∷ []),
        length-append h.events (e ∷ []),
      );
      world_after_events = to.1;
      summary = session_summary-push h.events h.answers e (spec_answer_of r) s t h.one_answer_per_event h.summary counts;
      counters_bounded = counters-grow (192015 * length h.events) 192015 (192015 * length (h.events ++ e ∷ [])) s t
          (omega (arith, length-append h.events (e ∷ []))) h.counters_bounded rises;
    }

pub counters_bound : (tsc n : ℕ) (script : List Event) (world : WorldState) (s : Summary) → n ≤ 1000 →
    IsRunInProgress tsc (generated_events n) script world s → CountersAreAtMost (2 ^ 58) s
counters_bound tsc n script world s most h =
    counters-grow (192015 * length h.events) 0 (2 ^ 58) s s (omega (
      arith,
      (bounded-messages n 1 0).size,
      ap length h.script_events_split,
      length-append h.events script,
    ))
    h.counters_bounded (zero_growth s)

pub is_generated_summary : (tsc n : ℕ) (script : List Event) (world : WorldState) (s : Summary) → script ≡ [] →
    IsRunInProgress tsc (generated_events n) script world s → s ≡ generated_summary tsc n
is_generated_summary tsc n script world s none h =
    let done : h.events ≡ generated_events n = sym (append-nil h.events) ∙ ap (λ (es : List Event). h.events ++ es) (sym none)
    ∙ sym h.script_events_split in
    let answers : h.answers ≡ generated_answers tsc n =
    generated_answers-only tsc n h.answers h.state (rw done at h.world_after_events.run) in
    h.summary ∙ ap (λ (es : List Event). session_summary es h.answers) done
    ∙ ap (λ (xs : List Answer). session_summary (generated_events n) xs) answers

pub acked_at_most_received : (tsc n : ℕ) → tsc ≤ 7 → AckedAtMostReceived (generated_summary tsc n)
acked_at_most_received tsc n within =
    let h = generated_session n tsc within in
    let benign : IsBenign (generated_events n) (generated_answers tsc n) =
    few_inverted_is_benign tsc Sdcch (generated_events n) (generated_answers tsc n) h.last_state h.run (few_inverted-generated n) in
    let agree : AckedAtMostDelivered (session_log (generated_events n) (generated_answers tsc n)) =
    air_counts tsc Sdcch (generated_events n) (generated_answers tsc n) h.last_state h.run benign in
    record { mobile = agree Mobile Zero; network = agree Network Zero }

-- ## Worked: The first generated events, computed by hand.

-- the events of the generated session with one message, which has 38 octets and two segments
only_one : generated_events 1
    ≡ Open (1 ∷ []) ∷ Deliver Mobile [] ∷ Deliver Network []
    ∷ Ask Mobile Zero
    (Send (1 ∷ 2 ∷ 3 ∷ 4 ∷ 5 ∷ 6 ∷ 7 ∷ 8 ∷ 9 ∷ 10 ∷ 11 ∷ 12 ∷ 13 ∷ 14 ∷ 15 ∷ 16 ∷ 17 ∷ 18 ∷ 19 ∷ 20
    ∷ 21 ∷ 22 ∷ 23 ∷ 24 ∷ 25 ∷ 26 ∷ 27
    ∷ 28 ∷ 29 ∷ 30 ∷ 31 ∷ 32 ∷ 33 ∷ 34 ∷ 35 ∷ 36 ∷ 37 ∷ 38 ∷ []))
    ∷ Deliver Mobile [] ∷ Deliver Network [] ∷ Deliver Mobile [] ∷ Deliver Network [] ∷ []
only_one = refl

-- the second message has 75 octets and four segments; three bits are inverted in transmission 4
second_message_turns : segment_transmissions Network (message_segment_count 2) 2
    ≡ Deliver Network [] ∷ Deliver Mobile [] ∷ Deliver Network (28 ∷ 29 ∷ 78 ∷ []) ∷ Deliver Mobile []
    ∷ Deliver Network [] ∷ Deliver Mobile [] ∷ Deliver Network [] ∷ Deliver Mobile [] ∷ []
second_message_turns = refl

-- the third message has 112 octets and six segments; its second segment is lost in transmission 8 and sent again
third_message_turns : segment_transmissions Mobile (message_segment_count 3) 6
    ≡ Deliver Mobile [] ∷ Deliver Network [] ∷ Lose Mobile ∷ Ask Mobile Zero T200Expiry ∷ Deliver Mobile [] ∷ Deliver Network []
    ∷ Deliver Mobile [] ∷ Deliver Network [] ∷ Deliver Mobile [] ∷ Deliver Network [] ∷ Deliver Mobile (84 ∷ 85 ∷ 134 ∷ [])
    ∷ Deliver Network []
    ∷ Deliver Mobile [] ∷ Deliver Network [] ∷ []
third_message_turns = refl

-- 37 * 7 is 259, which is 8 modulo 251, so message 7 has only 1 + 8 octets
seventh_message : message 7 ≡ 7 ∷ 8 ∷ 9 ∷ 10 ∷ 11 ∷ 12 ∷ 13 ∷ 14 ∷ 15 ∷ []
seventh_message = refl

-- the segments of the first three messages take 13 transmissions; the session with three messages has 32 events
turns_of_three : last_transmission_number (message_segment_count 3)
    (last_transmission_number (message_segment_count 2) (last_transmission_number (message_segment_count 1) 0)) ≡
    13
turns_of_three = refl

events_of_three : length (generated_events 3) ≡ 32
events_of_three = refl
