-- A step reports at most one acknowledgement, followed by at most one other notice, so the lines of an answer fit in the output buffer.
use Rattle.{
  std.{
    proofs.{
      Common.{All, Bool, List, None, Option, Some, [], append-nil, ap, arith, codes, false, if◌then◌else◌, length-append, length},
      Common.{map, nat_abs, nat_eq, nat_lt, refl, true, ℕ, ℤ, ◌*◌, ◌++◌, ◌+◌, ◌<◌, ◌^◌, ◌∷◌, ◌≡◌},
      Common.◌≤◌,
      lemmas.{Bool.Decides.nat_tests, Fmt.{length-decimal-le, length_signed_le}, List.{Elements.{All-head, All-tail}, length-map}},
    },
    specs.{Fmt.{decimal, signed_decimal}, Int.Signed.mag, List.{All, join_with_byte}},
  },
  um_end.specs.{
    CallEvents.{endpoint_call_in_event, sapi_of_call_event},
    EndRuns.frames_in_answer,
    Terminals.{ReceivesBursts, SideState, answer_to_call, call_answer_unless, endpoint_step, endpoint_with_sapi, layer3_call_step},
    Terminals.{no_op_step, step_for_frame, step_for_read_frame, terminal_step_of},
  },
  um_lines.{proofs.SpelledLaws.length-encode_lower, specs.{Hex.encode_lower, LineTexts.octets_word, Words.words}},
  um_link.{
    proofs.lapdm_window.Lemmas.{IsReplyTo, bound-call, bound-frame, by_sapi, cause_of},
    specs.{
      lapdm_frame.{Content.{Content, Frame, I, information}, Frames.{InformationFits, IsFrameCoding, octets_of}},
      lapdm_frame.declared.Channel.TheVariants.Sdcch,
      lapdm_link.Events.{BySide, EventRefusal, other},
      lapdm_window.{
        Calls.{Call, Sends, T200Expires, call_outcome, with_queued_message},
        Ends.{EndpointState, Outcome, Role, n200, vr, ◌then◌},
        Rules.{accepts_segment, answers_poll, answers_segment, evaluates_nr, rejects_segment, resends_outstanding_segment},
        Rules.{sends_next_segment, takes_i_frame, takes_rej, takes_rr},
        Tables.{AcceptsSabm, ConfirmsEstablishment, Reply, ReportsUiInformation, TakesIFrame, TakesRej, TakesRr, closes_and_reports},
        Tables.{frame_outcome, outcome_of_reply, reply_to_frame},
        declared.{Notice.Notice, Sapi.{TheVariants.{Three, Zero}, Sapi}},
        segmenting.Segments.Segment,
      },
      um_air.Air.{Accepts, Answer, Event, Octets, ReadsFrame, Step},
      um_block.declared.received.Received.Received,
    },
  },
  um_script.{
    proofs.AnswerLaws.{join-spaced, lines_text_append, report_line},
    specs.AnswerLines.{AnswerLine, ReceptionIsInRange, answer_lines_text, answer_text, notice_words, received_block_lines},
    specs.{AnswerLines.{received_block_line, reception_quality, reception_words, spaced_words}, AnswerWords.{actor_word, sapi_suffix}},
  },
}
use Rattle.um_link.specs.lapdm_window.declared.Notice.TheVariants as N
use Rattle.um_link.specs.lapdm_window.declared.Reason.TheVariants as R
use Rattle.um_script.specs.AnswerLines as L

-- ---- the notices that a step reports

-- the message in the notice has at most 251 octets, and the number in it is below 2 ^ 64
abbrev pub HasSmallContents : Notice → Type 0
HasSmallContents (N.Opened m) = length m ≤ 251
HasSmallContents (N.Got m) = length m ≤ 251
HasSmallContents (N.Unit m) = length m ≤ 251
HasSmallContents (N.Acked n) = n < 2 ^ 64
HasSmallContents N.Oversize = Unit {0}
HasSmallContents (N.Closed reason) = Unit {0}

-- the list is empty or contains only an acknowledgement
abbrev pub IsAcked : List Notice → Type 0
IsAcked [] = Unit {0}
IsAcked (N.Acked n ∷ []) = n < 2 ^ 64
IsAcked other = ⊥

-- the list contains at most one notice, and this notice satisfies `HasSmallContents`
abbrev pub IsOne : List Notice → Type 0
IsOne [] = Unit {0}
IsOne (notice ∷ []) = HasSmallContents notice
IsOne other = ⊥

-- the list contains at most one notice, perhaps after an acknowledgement, and its notices satisfy `HasSmallContents`
abbrev pub IsAtMostAckAndOne : List Notice → Type 0
IsAtMostAckAndOne [] = Unit {0}
IsAtMostAckAndOne (notice ∷ []) = HasSmallContents notice
IsAtMostAckAndOne (N.Acked n ∷ notice ∷ []) = (n < 2 ^ 64) × HasSmallContents notice
IsAtMostAckAndOne other = ⊥

ack_and_one-one : (ns : List Notice) → IsOne ns → IsAtMostAckAndOne ns
ack_and_one-one [] h = tt
ack_and_one-one (n ∷ []) h = h
ack_and_one-one (n ∷ m ∷ ns) h = absurd h

ack_and_one-append : (ns ms : List Notice) → IsAcked ns → IsOne ms → IsAtMostAckAndOne (ns ++ ms)
ack_and_one-append [] ms a o = ack_and_one-one ms o
ack_and_one-append (N.Acked n ∷ []) [] a o = a
ack_and_one-append (N.Acked n ∷ []) (m ∷ []) a o = (a, o)
ack_and_one-append (N.Acked n ∷ []) ms a o = absurd o
ack_and_one-append ns ms a o = absurd a

ack_and_one-three : (ns ms ls : List Notice) → IsAcked ns → IsOne ms → ls ≡ [] → IsAtMostAckAndOne ((ns ++ ms) ++ ls)
ack_and_one-three ns ms ls a o none = rw (none, append-nil) (ack_and_one-append ns ms a o)

by_test : (P : List Notice → Type 0) (b : Bool) (o p : Outcome) → P o.notices → P p.notices → P (if b then o else p).notices
by_test P true o p h g = h
by_test P false o p h g = g

-- ---- the notices that the rules of the window report

next : (e : EndpointState) → (sends_next_segment e).notices ≡ []
next e = grind arith

acked : (nr : ℕ) (e : EndpointState) → IsAcked (evaluates_nr nr e).notices
acked nr e = grind arith

accepted : (segment : Segment) (e : EndpointState) → IsOne (accepts_segment segment e).notices
accepted segment e = grind (arith, nat_tests)

answered : (p : Bool) (e : EndpointState) → (answers_segment p e).notices ≡ []
answered true e = next e
answered false e = grind arith

rejected : (p : Bool) (e : EndpointState) → IsOne (rejects_segment p e).notices
rejected p e = grind arith

notices_of_poll : (b : Bool) (e : EndpointState) → IsOne (answers_poll b e).notices
notices_of_poll b e = grind arith

again : (e : EndpointState) → (resends_outstanding_segment e).notices ≡ []
again e = grind arith

-- if the first of two rules reports at most one notice and the second none, evaluating N(R) before them adds at most an acknowledgement
counted : (nr : ℕ) (first second : EndpointState → Outcome) (e : EndpointState) →
    ((x : EndpointState) → IsOne (first x).notices) →
    ((x : EndpointState) → (second x).notices ≡ []) → IsAtMostAckAndOne (evaluates_nr nr e then first then second).notices
counted nr first second e h g =
    let o = evaluates_nr nr e in ack_and_one-three o.notices _ (second (o then first).new_state).notices (acked nr e) (h o.new_state) (g _)

notices-i : (ns nr : ℕ) (p : Bool) (segment : Segment) (e : EndpointState) → IsAtMostAckAndOne (takes_i_frame ns nr p segment e).notices
notices-i ns nr p segment e =
    by_test IsAtMostAckAndOne (nat_eq ns (vr e)) _ _
    (counted nr (accepts_segment segment) (answers_segment p) e (accepted segment) (answered p))
    (counted nr (rejects_segment p) sends_next_segment e (rejected p) next)

notices-rr : (nr : ℕ) (b : Bool) (e : EndpointState) → IsAtMostAckAndOne (takes_rr nr b e).notices
notices-rr nr b e = counted nr (answers_poll b) sends_next_segment e (notices_of_poll b) next

notices-rej : (nr : ℕ) (b : Bool) (e : EndpointState) → IsAtMostAckAndOne (takes_rej nr b e).notices
notices-rej nr b e = counted nr (answers_poll b) resends_outstanding_segment e (notices_of_poll b) again

-- ---- the notices that the replies to frames and calls report

notices-reply : (r : Reply) (c : Content) (e : EndpointState) → IsReplyTo c e r → length (information c) ≤ 251 →
    IsAtMostAckAndOne (outcome_of_reply r e).notices
notices-reply (AcceptsSabm info) c e cause h = rw cause.1 at h
notices-reply (ConfirmsEstablishment info) c e cause h = rw cause.0 at h
notices-reply (ReportsUiInformation info) c e cause h = rw cause.1 at h
notices-reply (TakesIFrame ns nr p segment) c e cause h = notices-i ns nr p segment e
notices-reply (TakesRr nr poll) c e cause h = notices-rr nr poll e
notices-reply (TakesRej nr poll) c e cause h = notices-rej nr poll e
notices-reply r c e cause h = tt

-- a frame with at most 251 octets of information leads to at most one notice, perhaps after an acknowledgement
notices-frame : (f : Frame) (e : EndpointState) → length (information f.content) ≤ 251 → IsAtMostAckAndOne (frame_outcome f e).notices
notices-frame f e h = notices-reply (reply_to_frame f e) f.content e (cause_of e f) h

notices-call : (call : Call) (e : EndpointState) → IsAtMostAckAndOne (call_outcome call e).notices
notices-call (Sends m) e = rw (next (with_queued_message m e)) tt
notices-call T200Expires e = by_test IsAtMostAckAndOne (nat_lt e.retries (n200 e.channel e.state)) _ (closes_and_reports _ e) tt tt
notices-call call e = tt

-- ---- the length of the text of a notice

append_four : (a b c d : List ℕ) → length (a ++ b ++ c ++ d) ≡ length a + length b + length c + length d
append_four a b c d = omega (arith, length-append (a ++ b ++ c) d, length-append (a ++ b) c, length-append a b)

append_five : (a b c d e : List ℕ) → length (a ++ b ++ c ++ d ++ e) ≡ length a + length b + length c + length d + length e
append_five a b c d e = omega (arith, length-append (a ++ b ++ c ++ d) e, append_four a b c d)

who_three : (role : Role) → length (actor_word (BySide role)) ≡ 3
who_three role = grind arith

link_short : (sapi : Sapi) → length (sapi_suffix sapi) ≤ 1
link_short sapi = grind arith

acked_short : (n : ℕ) → n < 2 ^ 64 → length (spaced_words (notice_words (N.Acked n))) ≤ 27
acked_short n h = omega (arith, length-append (decimal n) [], length-decimal-le 20 n (omega arith) (omega (arith, h)) h)

octets_short : (m : List ℕ) → length m ≤ 251 → length (octets_word m) ≤ 502
octets_short [] h = omega arith
octets_short (octet ∷ rest) h = omega (arith, h, length-encode_lower (octet ∷ rest))

notice_short : (notice : Notice) → HasSmallContents notice → length (spaced_words (notice_words notice)) ≤ 510
notice_short (N.Opened m) h = omega (arith, length-append (octets_word m) [], octets_short m h)
notice_short (N.Got m) h = omega (arith, length-append (octets_word m) [], octets_short m h)
notice_short (N.Unit m) h = omega (arith, length-append (octets_word m) [], octets_short m h)
notice_short (N.Acked n) h = omega (arith, acked_short n h)
notice_short (N.Closed R.Contention) h = omega arith
notice_short notice h = omega arith

-- the text of the lines that report these notices
abbrev notified : Role → Sapi → List Notice → List ℕ
notified role sapi notices = answer_lines_text (map (L.Reports (BySide role) sapi) notices)

line_short : (role : Role) (sapi : Sapi) (notice : Notice) (notices : List Notice) →
    length (notified role sapi (notice ∷ notices)) ≤ 5 + length (spaced_words (notice_words notice)) + length
    (notified role sapi notices)
line_short role sapi notice notices =
    let rest = notified role sapi notices in
    let all = append_five (actor_word (BySide role)) (sapi_suffix sapi) (spaced_words (notice_words notice)) (codes "\n") rest in
    omega (arith, all, ap length (report_line [] (BySide role) sapi notice rest), who_three role, link_short sapi)

notices_short : (role : Role) (sapi : Sapi) (ns : List Notice) → IsAtMostAckAndOne ns → length (notified role sapi ns) ≤ 547
notices_short role sapi [] h = omega arith
notices_short role sapi (n ∷ []) h = omega (arith, line_short role sapi n [], notice_short n h)
notices_short role sapi (N.Acked k ∷ n ∷ []) h =
    omega (arith, line_short role sapi (N.Acked k) (n ∷ []), acked_short k h.0, line_short role sapi n [], notice_short n h.1)
notices_short role sapi ns h = absurd h

-- 23 octets, those of a block
abbrev pub IsBlock : Octets → Type 0
IsBlock octets = length octets ≡ 23

frames_short : (role : Role) (frames : List Octets) → All IsBlock frames →
    length (answer_lines_text (map (L.Sends (BySide role)) frames)) ≡ 57 * length frames
frames_short role [] whole = refl
frames_short role (f ∷ fs) whole =
    omega (
      arith,
      length-append {A = ℕ},
      who_three role,
      length-encode_lower f,
      All-head IsBlock f fs whole,
      frames_short role fs (All-tail IsBlock f fs whole),
    )

mag-nat_abs : (z : ℤ) → mag z ≤ nat_abs z
mag-nat_abs z = grind arith

reception_short : (r : Received) → r.tsc ≤ 7 → ReceptionIsInRange (reception_quality r) →
    length (spaced_words (reception_words (reception_quality r))) ≤ 61
reception_short r tsc h =
    let t = length-decimal-le 1 r.tsc (omega arith) (omega (arith, tsc)) (omega (arith, tsc)) in
    let w = length-decimal-le 20 r.wrong_training (omega arith) (omega (arith, h.wrong_training)) h.wrong_training in
    let m = length_signed_le 19 r.metric (omega (arith, h.metric, mag-nat_abs r.metric)) (omega (arith, h.metric, mag-nat_abs r.metric)) in
    let last = signed_decimal r.metric ++ [] in
    let back = decimal r.wrong_training ++ (codes " metric " ++ last) in
    omega (
      arith,
      t,
      w,
      m,
      length-append (decimal r.tsc) (codes " train " ++ back),
      length-append (decimal r.wrong_training) (codes " metric " ++ last),
      length-append (signed_decimal r.metric) [],
    )

arrival_short : (role : Role) (r : Received) (octets : Octets) → r.accepted ≡ Some octets → length octets ≡ 23 → r.tsc ≤ 7 →
    ReceptionIsInRange (reception_quality r) → length (answer_lines_text (received_block_lines (BySide role) (Some r))) ≤ 118
arrival_short role r octets is count tsc fits =
    let name = actor_word (BySide role) in
    let words = codes "takes" ∷ encode_lower octets ∷ reception_words (reception_quality r) in
    let line = join_with_byte 32 (name ∷ words) in
    omega (
      arith,
      ap (λ accepted. length (answer_lines_text (received_block_line (BySide role) accepted r ∷ []))) is,
      length-append (line ++ codes "\n") [],
      length-append line (codes "\n"),
      ap length (join-spaced name words),
      length-append name (spaced_words words),
      length-append (encode_lower octets) (spaced_words (reception_words (reception_quality r))),
      who_three role,
      length-encode_lower octets,
      count,
      reception_short r tsc fits,
    )

-- ---- the length of an answer

-- the text of the answer and the burst lines of each frame sent (604 octets per frame) together have fewer than 2000 octets
abbrev pub IsShort : Answer → Type 0
IsShort answer = length (answer_text answer) + 604 * length (frames_in_answer answer) < 2000

lines_four : (a b c d : List AnswerLine) → length (answer_lines_text (a ++ b ++ c ++ d))
    ≡ length (answer_lines_text a) + length (answer_lines_text b) + length (answer_lines_text c) + length (answer_lines_text d)
lines_four a b c d = rw (lines_text_append (a ++ b ++ c) d, lines_text_append (a ++ b) c, lines_text_append a b) (append_four _ _ _ _)

outcome_short : (role : Role) (received : Option Received) (sapi : Sapi) (o : Outcome) (a : SideState) →
    length o.frames ≤ 2 → IsAtMostAckAndOne o.notices →
    length (answer_lines_text (received_block_lines (BySide role) received)) ≤ 118 →
    All IsBlock (map (octets_of Sdcch) o.frames)
    → IsShort (Accepts (terminal_step_of role received (endpoint_step sapi o a)))
outcome_short role received sapi o a few brief arrived whole =
    let frames = map (octets_of Sdcch) o.frames in
    let all = lines_four (received_block_lines (BySide role) received) (map (L.Reports (BySide role) sapi) o.notices)
    (map (L.Sends (BySide role)) frames) (L.FinalOk ∷ []) in
    omega (
      arith,
      all,
      few,
      arrived,
      notices_short role sapi o.notices brief,
      frames_short role frames whole,
      length-map o.frames (octets_of Sdcch),
    )

short_unless : (role : Role) (a : SideState) (sapi : Sapi) (call : Call) (refused : Option EventRefusal) →
    (let answer = (call_answer_unless refused role a (layer3_call_step sapi call a)).1 in
    All IsBlock (frames_in_answer answer) → length (answer_text answer) < 2000 → IsShort answer)
short_unless role a sapi call (Some why) whole lines = omega (arith, lines)
short_unless role a sapi call None whole lines =
    outcome_short role None sapi (call_outcome call (endpoint_with_sapi sapi a)) a (bound-call call _).frames (notices-call call _)
    (omega arith) whole

-- the answer to a call has fewer than 2000 octets with its burst lines (`IsShort`), if it has fewer without them
pub call_short : (role : Role) (a : SideState) (event : Event) → (let answer = (answer_to_call role a event).1 in
    All IsBlock (frames_in_answer answer) → length (answer_text answer) < 2000 → IsShort answer)
call_short role a event = short_unless role a (sapi_of_call_event event) (endpoint_call_in_event event) _

-- an answer that sends nothing satisfies `IsShort` if its own lines have fewer than 2000 octets
IsShort-unsent : (step : Step) → step.frames ≡ [] → length (answer_text (Accepts step)) < 2000 → IsShort (Accepts step)
IsShort-unsent step none lines = let n = ap (λ fs. length fs) none in omega (arith, n, lines)

at_most_251 : (c : Content) → InformationFits Sdcch c → length (information c) ≤ 251
at_most_251 (I ns nr p more info) h = omega (arith, h.1)
at_most_251 other h = omega (arith, h)

taken_short : (role : Role) (a : SideState) (r : Received) (f : Frame) (octets : Octets) →
    r.accepted ≡ Some octets → IsFrameCoding Sdcch f octets → r.tsc ≤ 7 → ReceptionIsInRange (reception_quality r) →
    All IsBlock (terminal_step_of role (Some r) (step_for_frame f a)).frames →
    length (answer_text (Accepts (terminal_step_of role (Some r) (step_for_frame f a)))) < 2000
    → IsShort (Accepts (terminal_step_of role (Some r) (step_for_frame f a)))
taken_short role a r f octets is frame known fits =
    let arrived = arrival_short role r octets is frame.count known fits in
    let room = at_most_251 f.content frame.fits.information in
    by_sapi f a (λ d. All IsBlock (terminal_step_of role (Some r) d).frames →
    length (answer_text (Accepts (terminal_step_of role (Some r) d))) < 2000 → IsShort (Accepts (terminal_step_of role (Some r) d)))
    (λ q whole lines. outcome_short role (Some r) Zero (frame_outcome f a.link0) a (bound-frame f _).frames
    (notices-frame f _ room) arrived whole)
    (λ q whole lines. outcome_short role (Some r) Three (frame_outcome f a.link3) a (bound-frame f _).frames
    (notices-frame f _ room) arrived whole) (λ p q whole lines. IsShort-unsent (terminal_step_of role (Some r) (no_op_step a)) refl lines)

-- the answer to a block, with its burst lines, has fewer than 2000 octets (`IsShort`)
pub block_short : (role : Role) (a : SideState) (bursts : List (List ℤ)) (b : SideState) (step : Step) →
    ReceivesBursts role a bursts b step → ((r : Received) → step.received ≡ Some r → ReceptionIsInRange (reception_quality r)) →
    All IsBlock step.frames → length (answer_text (Accepts step)) < 2000 → IsShort (Accepts step)
block_short role a bursts b step h fits whole lines = by_read h.frame h.report.accepted h.reads refl h.step_is_terminal_step
  where
    by_read : (read : Option Frame) (accepted : Option Octets) → ReadsFrame Sdcch accepted read → h.report.accepted ≡ accepted →
        step ≡ terminal_step_of role (Some h.report) (step_for_read_frame read a) → IsShort (Accepts step)
    by_read None accepted reads is same = IsShort-unsent step (ap (λ (s : Step). s.frames) same) lines
    by_read (Some f) None reads is same = absurd reads
    by_read (Some f) (Some octets) reads is same =
        rw same (taken_short role a h.report f octets is reads h.received.tsc.in_range (fits h.report (rw same refl))
        (rw same at whole) (rw same at lines))
