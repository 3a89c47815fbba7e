-- Sessions over blocks: every event has an answer, the events determine the session, and its log is that of a session of frames.
use Rattle.{
  lapdm_link.{
    proofs.{
      Lemmas.{AllFit, AllSay, EndOctets, LineOctets, SaysOctets, WorldOctets, event_step-fits, event_step-holds, initial-octets},
      Lemmas.{octets-step, claims_of, counts_of, order_of, Knows},
      lapdm_frame.{Lemmas.{IsOnlyReading-frame_reading, bit_bound, information_bound, octets_canonical, same_frame}, OneRead.one_read},
      Carriers.{AreAlike, AreCoded, IsReached, MayRead, alike-more, alike-taken, coded-sent, happens, read-fits, reached-start},
    },
    specs.{
      Claims.{AckedAtMostDelivered, Claims, HasNoticesInOrder, LogLine, answer_log_lines, notice_log_lines, event_log_lines},
      Events.{BySide, Deliver, EventRefusal, Nothing, Who, event_step, queues_after_removal, refusal_if, sending_role, AirFull},
      Events.{unbounded_capacity, refusal_with_bounded_queues, BothSides, Open, OpenBare, Ask, Lose, Rival, other},
      Queues.{IsOldestSentOrNone, Queues, empty_queues, queue_of, queue_length},
      Worlds.{World, IsOldestSentOrReplaced, as_sent, initial_world},
      lapdm_frame.{Content.{Frame, information}, Frames.{FrameFits, octets_of, IsFrameCoding}, declared.Channel.Channel},
      lapdm_frame.{Computed.frame_reading, Readings.IsOnlyReading, declared.Refusal.Refusal},
      lapdm_window.{Ends.Role, declared.{Notice.Notice, Sapi.Sapi}},
    },
  },
  std.{
    specs.{List.AllZip, Prelude.{IfSome, unsigned_abs}},
    proofs.Common.{All, Err, List, None, Ok, Option, Result, Some, [], ap, arith, false, get_or, get_or-set_same, inl, length, map},
    proofs.Common.{nat_eq, pos, refl},
    proofs.Common.{sym, ℕ, ℤ, ◌%◌, ◌++◌, ◌-◌, ◌/◌, ◌<◌, ◌∙◌, ◌∷◌, ◌≡◌, ◌≢◌, ◌≤◌},
    proofs.{Common.{Bool, append_assoc, subst}, Math.ListN.get_or-map, lemmas.Bool.Decides.nat_tests},
    proofs.lemmas.List.{get_or-append_right, get_or-set_other, get_or_append_left, get_or_default, length-map, length-set, set_past},
    proofs.lemmas.List.Elements.{All-append, All-cons, All-drop, All-head, All-map, All-nil, All-replicate, All-set, All-tail, All-take},
    proofs.lemmas.List.append-nil,
  },
  um_air.specs.{
    Air.{Accepts, AirState, Answer, AreBlocksOfFrames, Block, Event, EventDelivers, IsAirRun, IsAirStep, Octets, ReadsFrame, ReceivesBlock},
    Air.{Refuses, Step, event_with_frame, initial_session, refusal, with_bit_inverted, with_bits_inverted, CarriesOutEvent},
    Damage.AreCorrectableBursts,
    Sessions.{AllEventsInvertFewBits, AreOctets, EventInvertsFewBits, EventMessageIsOctets, IsBenign, IsBenignFrom, IsBenignStep},
    Sessions.{answer_without_blocks, queues_after_event, session_log},
    Computed.{air_step, frame_in, frame_of_reading, frame_in_accepted, frame_in_report, report_of, report_on_oldest},
  },
  um_block.{
    proofs.Lemmas.{accepted_count, accepted_octets, clean_gathered, coded_block_bits, few_listed_positions, listed, received_block-only},
    proofs.Lemmas.{received_place, sent_block-only, restored_block, sent_block_bits, some_received_block, some_sent_block},
    proofs.{interleave.Positions.position_in_four_bursts-below, weight_bound.Lemmas.IsCorrectable-equal},
    specs.{Received.{IsReceivedBlock, coded_soft_bits, joined_bursts, soft_bit_of, soft_bits}, Sent.IsSentBlock, bit_blocks.Octets.IsOctet},
    specs.{declared.received.Received.Received, interleave.{Bursts.IsInterleaved, Positions.position_in_four_bursts}, Computed.sent_block},
  },
}
use Rattle.lapdm_link.specs.Events as E
use Rattle.lapdm_link.specs.Worlds as W

-- ## AnswerUnique: What an event may lead to is what `air_step` computes, because coding, reception and reading have one result each.

ReadsFrame-frame_in : (channel : Channel) (octets : Octets) → length octets ≡ 23 →
    ReadsFrame channel (Some octets) (frame_in channel octets)
unfolding frame_in
ReadsFrame-frame_in channel octets count = go (frame_reading channel octets) (IsOnlyReading-frame_reading channel octets count)
  where
    go : (reading : Result Frame Refusal) → IsOnlyReading channel octets reading →
        ReadsFrame channel (Some octets) (frame_of_reading reading)
    go (Ok f) only = only.frame
    go (Err reason) only = (reason, only.refused)

pub ReadsFrame-frame_in_accepted : (channel : Channel) (o : Option Octets) → IfSome o (λ octets. length octets ≡ 23) →
    ReadsFrame channel o (frame_in_accepted channel o)
ReadsFrame-frame_in_accepted channel None count = tt
ReadsFrame-frame_in_accepted channel (Some octets) count = ReadsFrame-frame_in channel octets count

pub frame_in-only : (channel : Channel) (o : Option Octets) (f : Option Frame) → IfSome o (λ octets. length octets ≡ 23) →
    ReadsFrame channel o f → f ≡ frame_in_accepted channel o
frame_in-only channel o f count h = one_read channel o f _ h (ReadsFrame-frame_in_accepted channel o count)

arrival-only : (a : AirState) (event : Event) (o : Option Received) (f : Option Frame) → EventDelivers a event o f →
    (o ≡ report_of a event) × (event_with_frame f event ≡ event_with_frame (frame_in_report a.channel o) event)
arrival-only a (Deliver sender places) (Some r) f h = (
  ap Some (received_block-only _ r h.received) ∙ sym (ap (report_on_oldest places) h.queue_front),
  ap (Deliver sender) (frame_in-only a.channel r.accepted f (accepted_count _ r h.received) h.reads_frame),
)
arrival-only a (Deliver sender places) None f h = absurd h
arrival-only a event None f h = (grind arith, grind arith)
arrival-only a event o f h = absurd (grind arith)

blocks-only : (channel : Channel) (tsc : ℕ) (fs : List Frame) (bs : List Block) → AreBlocksOfFrames channel tsc fs bs →
    bs ≡ map (λ f. sent_block (octets_of channel f) tsc) fs
blocks-only channel tsc [] [] h = refl
blocks-only channel tsc (f ∷ fs) (b ∷ bs) h = cc (sent_block-only _ _ b h.0, blocks-only channel tsc fs bs h.1)
blocks-only channel tsc fs bs h = absurd assumption

pub air_step_only : (a : AirState) (event : Event) (b : AirState) (answer : Answer) → IsAirStep a event b answer →
    air_step a event ≡ (b, answer)
air_step_only a event b (Refuses why) h = rw (h.0, h.1) refl
air_step_only a event b (Accepts s) (accepted, h) =
    let arrival = arrival-only a event s.received h.read h.delivery in
    let blocks = blocks-only a.channel a.tsc _ h.blocks h.sent in
    rw (accepted, ← arrival.0, ← arrival.1, ← blocks, h.new_state_is, h.step_matches) refl

pub one_answer : (a : AirState) (event : Event) (b c : AirState) (x y : Answer) → IsAirStep a event b x → IsAirStep a event c y →
    (b ≡ c) × (x ≡ y)
one_answer a event b c x y h k =
    let same : (b, x) ≡ (c, y) = sym (air_step_only a event b x h) ∙ air_step_only a event c y k in
    (ap (λ s. s.0) same, ap (λ s. s.1) same)

pub same_step : (s t : Step) → s.who ≡ t.who → s.sapi ≡ t.sapi → s.received ≡ t.received → s.frames ≡ t.frames →
    s.notices ≡ t.notices → s ≡ t
same_step s t who sapi received frames notices = grind arith

-- the result of an event in a session over blocks: the result of the frame event `e`, with its frames as octets and with the report on a
-- received block
abbrev done : AirState → E.Event → Option Received → Step
done a e report =
    let d = event_step e a.ends in
    record { who = d.who; sapi = d.sapi; received = report; frames = map (octets_of a.channel) d.frames; notices = d.notices }

pub one_run : (a : AirState) (events : List Event) (b c : AirState) (xs ys : List Answer) → IsAirRun a events xs b →
    IsAirRun a events ys c → (b ≡ c) × (xs ≡ ys)
one_run a [] b c [] [] h k = (h ∙ sym k, refl)
one_run a (event ∷ events) b c (x ∷ xs) (y ∷ ys) h k =
    let first = one_answer a event h.0 k.0 x y h.1 k.1 in
    let later = one_run k.0 events b c xs ys (rw first.0 at h.2) k.2 in
    (later.0, cc (first.1, later.1))
one_run a events b c xs ys h k = absurd assumption

-- ## FewFlipped: A block with at most three inverted bits is accepted with the octets that were sent: at most three of its 456 soft values
-- are wrong, and the decoder corrects that many.

-- bit q (0 to 591) of a block, counted through its four bursts in order
abbrev bit_at : Block → ℕ → ℕ
bit_at block q = get_or (get_or block (q / 148) []) (q % 148) 0

other_bit : (p q : ℕ) (block : Block) → q ≢ p → bit_at (with_bit_inverted p block) q ≡ bit_at block q
other_bit p q block other = grind (arith, get_or-set_other, get_or-set_same, set_past)

flipped-other : (places : List ℕ) (block : Block) (q : ℕ) → listed q places ≡ false →
    bit_at (with_bits_inverted places block) q ≡ bit_at block q
unfolding listed
flipped-other [] block q h = refl
flipped-other (p ∷ ps) block q h =
    flipped-other ps (with_bit_inverted p block) q (grind arith) ∙ other_bit p q block (grind (arith, nat_tests))

-- ---- a sent block has four bursts of 148 bits each, also after some bits are inverted

abbrev IsBurst : {X : Type 0} → List X → Type 0
IsBurst burst = length burst ≡ 148

abbrev IsWhole : {X : Type 0} → List (List X) → Type 0
IsWhole bursts = (length bursts ≡ 4) × All IsBurst bursts

flipped-whole_bursts : (places : List ℕ) (block : Block) → IsWhole block → IsWhole (with_bits_inverted places block)
flipped-whole_bursts [] block h = h
flipped-whole_bursts (p ∷ ps) block h =
    flipped-whole_bursts ps (with_bit_inverted p block) (grind (arith, All-set (IsBurst {X = ℕ}), length-set, set_past))

-- ---- the soft values of a block

joined-at : (bursts : List (List ℤ)) (q : ℕ) (d : ℤ) → All IsBurst bursts →
    get_or (joined_bursts bursts) q d ≡ get_or (get_or bursts (q / 148) []) (q % 148) d
joined-at [] q d each = refl
joined-at (burst ∷ bursts) q d each =
    let long = All-head IsBurst burst bursts each in
    let rest = joined-at bursts (q - 148) d (All-tail IsBurst burst bursts each) in
    grind (arith, get_or_append_left, get_or-append_right)

module _ (octets : Octets) (tsc : ℕ) (block : Block) (s : IsSentBlock octets tsc block) where
  flipped_shape : (places : List ℕ) → IsWhole (map soft_bits (with_bits_inverted places block))
  flipped_shape places =
      let bits = sent_block_bits octets tsc block s in
      let whole = flipped-whole_bursts places block (bits.0, λ k d l. (bits.1 k d l).right_length) in (
        length-map (with_bits_inverted places block) _ ∙ whole.0,
        All-map IsBurst _ _ (λ k d l. length-map (get_or _ k d) _ ∙ whole.1 k d l),
      )

  soft_at : (places : List ℕ) (soft : List ℤ) →
      IsInterleaved soft (map coded_soft_bits (map soft_bits (with_bits_inverted places block))) →
      (k : ℕ) (d : ℤ) → k < 456 →
      get_or soft k d ≡ soft_bit_of (bit_at (with_bits_inverted places block) (position_in_four_bursts k))
  soft_at places soft deinterleaved k d h =
      let flipped = with_bits_inverted places block in
      let q = position_in_four_bursts k in
      let shape = flipped_shape places in
      let burst = get_or (map soft_bits flipped) (q / 148) [] in
      let below = position_in_four_bursts-below k in
      let long : length burst ≡ 148 = shape.1 (q / 148) [] (omega (arith, shape.0, below)) in
      get_or_default soft k d (pos 0) (omega arith) ∙ received_place _ soft shape.0 shape.1 deinterleaved k h
      ∙ joined-at _ q _ shape.1 ∙ get_or_default burst (q % 148) (pos 0) (pos 127) (omega (arith, long))
      ∙ rw (get_or-map soft_bits flipped (q / 148) []) (get_or-map soft_bit_of (get_or flipped (q / 148) []) (q % 148) 0)

pub flipped_damaged : (octets : Octets) (tsc : ℕ) (block : Block) (places : List ℕ) → IsSentBlock octets tsc block →
    length places ≤ 3 → AreCorrectableBursts octets (map soft_bits (with_bits_inverted places block))
flipped_damaged octets tsc block places s few =
    let shape = flipped_shape octets tsc block s places in
    let (r, is) = some_received_block _ shape.0 shape.1 in
    let at = soft_at octets tsc block s places is.soft is.deinterleaved in
    let bits = coded_block_bits octets s.coded_bits s.code in
    let wrong = few_listed_positions is.soft s.coded_bits places is.deinterleaved.coded_count bits.right_length bits.each (λ k l unlisted.
    at k (pos 0) l ∙ ap soft_bit_of (flipped-other places block _ unlisted)
    ∙ sym (soft_at octets tsc block s [] (soft_bits s.coded_bits) (clean_gathered octets tsc block s) k (pos 127) l)
    ∙ get_or-map soft_bit_of s.coded_bits k 0) in
    record {
      bits = s.coded_bits;
      coded = s.code;
      four_bursts = shape.0;
      whole_bursts = shape.1;
      soft = is.soft;
      deinterleaved = is.deinterleaved;
      correctable = IsCorrectable-equal is.soft s.coded_bits 127 (omega arith) (omega arith)
          (λ k d l. ap unsigned_abs (at k d (omega arith)) ∙ grind arith) (omega arith);
    }

-- the decoder corrects this much damage (`weight_bound`)
pub damaged_received : (octets : Octets) (bursts : List (List ℤ)) (r : Received) → AreCorrectableBursts octets bursts →
    IsReceivedBlock bursts r → r.accepted ≡ Some octets
damaged_received octets bursts r h is = restored_block bursts octets h.bits h.soft r h.coded h.deinterleaved h.correctable is

pub accepted_as_sent : (octets : Octets) (tsc : ℕ) (block : Block) (places : List ℕ) (r : Received) → IsSentBlock octets tsc block →
    length places ≤ 3 → IsReceivedBlock (map soft_bits (with_bits_inverted places block)) r → r.accepted ≡ Some octets
accepted_as_sent octets tsc block places r s few h = damaged_received octets _ r (flipped_damaged octets tsc block places s few) h

-- ## AsFrameSessions: A session over blocks represents a session of frames with the same log, so the claims of lapdm_link hold for both:
-- the octets that were sent encode the frames in transit, and the blocks in transit are those octets, coded.

abbrev AreSent : ℕ → Queues Octets → Queues Block → Type 0
AreSent tsc os blocks = AreAlike (λ o block. IsSentBlock o tsc block) os blocks

-- ---- the frame that a receiver reads from a block

pub reads-well : (channel : Channel) (accepted : Option Octets) (f : Frame) → IfSome accepted AreOctets →
    ReadsFrame channel accepted (Some f) → FrameFits channel f × AreOctets (information f.content)
reads-well channel (Some octets) f all h =
    (h.fits, rw (← h.information_matches) (search (All-take IsOctet, All-drop IsOctet, all)))
reads-well channel None f all h = absurd h

pub read_back : (r : Role) (ends : BothSides) (channel : Channel) (accepted : Option Octets) (read : Option Frame) (fs : List Frame)
    (os : List Octets) →
    AllZip (IsFrameCoding channel) fs os → ReadsFrame channel accepted read → IsOldestSentOrNone accepted os →
    IsOldestSentOrReplaced r ends read fs
read_back r ends channel (Some octets) (Some f) (g ∷ gs) (o ∷ os) z h s = as_sent (same_frame channel o f g (rw s at h) z.0)
read_back r ends channel (Some octets) (Some f) fs [] z h s = absurd s
read_back r ends channel accepted None fs os z h s = tt
read_back r ends channel accepted read fs os z h s = absurd assumption

pub may_read : {Sound : Type 0} {channel : Channel} {w : World} {ls : List LogLine} (h : IsReached Sound channel w ls)
    (octets : Queues Octets) → AreCoded channel w.queues octets → (sender : Role) (accepted : Option Octets) (read : Option Frame) →
    IfSome accepted AreOctets → ReadsFrame channel accepted read → (Sound → IsOldestSentOrNone accepted (queue_of sender octets)) →
    Knows (MayRead h) (Deliver sender read) × Knows (λ r f. SaysOctets f) (Deliver sender read)
may_read h octets coded sender accepted None small reads oldest = (tt, tt)
may_read {channel = channel} {w = w} h octets coded sender accepted (Some f) small reads oldest =
    let well = reads-well channel accepted f small reads in (
      (
        well.0,
        λ sound. read_back (other sender) w.ends channel accepted (Some f) (queue_of sender w.queues) (queue_of sender octets)
            (coded sender) reads (oldest sound),
      ),
      well.1,
    )

-- ---- the octets in transit and their blocks

sent_octets : (channel : Channel) (tsc : ℕ) (fs : List Frame) (blocks : List Block) → AreBlocksOfFrames channel tsc fs blocks →
    AllZip (λ o block. IsSentBlock o tsc block) (map (octets_of channel) fs) blocks
sent_octets channel tsc [] [] h = tt
sent_octets channel tsc (f ∷ fs) (block ∷ blocks) h = (h.0, sent_octets channel tsc fs blocks h.1)
sent_octets channel tsc fs blocks h = absurd assumption

removed-same : {T : Type 0} (read : Option Frame) (event : Event) (ws : Queues T) →
    queues_after_removal (event_with_frame read event) ws ≡ queues_after_removal event ws
removed-same read event ws = grind arith

sent-step : (a b : AirState) (octets : Queues Octets) (event : Event) (answer : Answer) → AreSent a.tsc octets a.queues →
    IsAirStep a event b answer → (b.tsc ≡ a.tsc) × AreSent b.tsc (queues_after_event event answer octets) b.queues
sent-step a b octets event (Refuses why) h t = rw t.1 (refl, h)
sent-step a b octets event (Accepts step) h (none, s) =
    let d = event_step (event_with_frame s.read event) a.ends in
    rw (s.step_matches, s.new_state_is) (
      refl,
      alike-more (λ o block. IsSentBlock o a.tsc block) (sending_role d.who) (map (octets_of a.channel) d.frames) s.blocks _ _
          (alike-taken _ event octets a.queues h) (sent_octets a.channel a.tsc d.frames s.blocks s.sent),
    )

few_inverted-oldest : (tsc : ℕ) (os : List Octets) (block : Block) (later : List Block) (places : List ℕ) (report : Received) →
    AllZip (λ o b. IsSentBlock o tsc b) os (block ∷ later) → length places ≤ 3 →
    IsReceivedBlock (map soft_bits (with_bits_inverted places block)) report → IsOldestSentOrNone report.accepted os
few_inverted-oldest tsc (o ∷ os) block later places report sent few received =
    rw (accepted_as_sent o tsc block places report sent.0 few received) refl
few_inverted-oldest tsc [] block later places report sent few received = absurd sent

few_inverted-step : (a b : AirState) (octets : Queues Octets) (event : Event) (answer : Answer) → AreSent a.tsc octets a.queues →
    IsAirStep a event b answer → EventInvertsFewBits event → IsBenignStep event answer octets
few_inverted-step a b octets (Deliver sender places) (Accepts step) h (none, s) few = go step.received s.read s.delivery
  where
    go : (received : Option Received) (read : Option Frame) → EventDelivers a (Deliver sender places) received read →
        IfSome received (λ report. IsOldestSentOrNone report.accepted (queue_of sender octets))
    go (Some report) read t =
        few_inverted-oldest a.tsc (queue_of sender octets) t.block t.later_blocks places report (rw t.queue_front at (h sender)) few
        t.received
    go None read t = tt
few_inverted-step a b octets event answer h t few = tt

few_inverted-run : (events : List Event) (answers : List Answer) (a b : AirState) (octets : Queues Octets) →
    AreSent a.tsc octets a.queues → IsAirRun a events answers b → AllEventsInvertFewBits events → IsBenignFrom octets events answers
few_inverted-run [] answers a b octets h run few = tt
few_inverted-run (event ∷ events) [] a b octets h run few = tt
few_inverted-run (event ∷ events) (answer ∷ answers) a b octets h run few = (
  few_inverted-step a run.0 octets event answer h run.1 few.0,
  few_inverted-run events answers run.0 b _ (sent-step a run.0 octets event answer h run.1).1 run.2 few.2,
)

-- ---- one step of a session

-- A session over blocks in state `a`, with the octets in transit and the log `ls`. `More` holds of the state of the session of frames. If
-- `Sound`, each block was accepted with the octets that were sent, or not at all.
record IsAir (Sound : Type 0) (More : World → Type 0) (a : AirState) (octets : Queues Octets) (ls : List LogLine) : Type 0 where
  world : World
  reached : IsReached Sound a.channel world ls
  ends : world.ends ≡ a.ends
  more : More world
  coded : AreCoded a.channel world.queues octets
  sent : AreSent a.tsc octets a.queues

refusal_if-none : (b : Bool) (why : EventRefusal) (others : Option EventRefusal) → refusal_if b why others ≡ None → others ≡ None
refusal_if-none b why others h = grind arith

accepted-unbounded : (w : World) (count : Role → ℕ) (event : Event) (read : Option Frame) → w.capacity ≡ unbounded_capacity →
    refusal_with_bounded_queues w.channel count event w.ends ≡ None → W.refusal (event_with_frame read event) w ≡ None
accepted-unbounded w count (Open info) read capacity h = rw capacity (refusal_if-none _ AirFull _ h)
accepted-unbounded w count (OpenBare role) read capacity h = rw capacity (refusal_if-none _ AirFull _ h)
accepted-unbounded w count (Ask role sapi request) read capacity h = rw capacity (refusal_if-none _ AirFull _ h)
accepted-unbounded w count (Deliver sender places) read capacity h = rw capacity refl
accepted-unbounded w count (Lose sender) read capacity h = rw capacity refl
accepted-unbounded w count (Rival info) read capacity h = rw capacity (refusal_if-none _ AirFull _ h)

same-lines : (read : Option Frame) (event : Event) → event_log_lines (event_with_frame read event) ≡ event_log_lines event
same-lines read event = grind arith

module _ {Sound : Type 0} {More : World → Type 0} {a : AirState} {octets : Queues Octets} {ls : List LogLine}
    (h : IsAir Sound More a octets ls) where
  abbrev w : World
  w = h.world

  accepted : (event : Event) (read : Option Frame) → refusal event a ≡ None → W.refusal (event_with_frame read event) w ≡ None
  accepted event read none =
      accepted-unbounded w (queue_length a.queues) event read h.reached.capacity
      (subst (λ channel. refusal_with_bounded_queues channel (queue_length a.queues) event w.ends ≡ None) (sym h.reached.fit.on_channel)
      (subst (λ es. refusal_with_bounded_queues a.channel (queue_length a.queues) event es ≡ None) (sym h.ends) none))

  reads : (event : Event) (report : Option Received) (read : Option Frame) (step : Step) → EventDelivers a event report read →
      step.received ≡ report → (Sound → IsBenignStep event (Accepts step) octets) → (let e = event_with_frame read event in
      Knows (MayRead h.reached) e × Knows (λ r f. SaysOctets f) e)
  reads (Deliver sender places) (Some report) read step t same benign =
      may_read h.reached octets h.coded sender report.accepted read (accepted_octets _ report t.received) t.reads_frame
      (λ sound. rw same at (benign sound))
  reads (Deliver sender places) None read step t same benign = absurd t
  reads event report read step t same benign = (tt, tt)

  air-step : (event : Event) (answer : Answer) (b : AirState) → IsAirStep a event b answer →
      (Sound → IsBenignStep event answer octets) →
      ((read : Option Frame) → (let e = event_with_frame read event in W.refusal e w ≡ None → Knows (λ r f. SaysOctets f) e →
      More (W.world_after_possible_refusal None e w))) →
      IsAir Sound More b (queues_after_event event answer octets) (ls ++ answer_log_lines event (answer_without_blocks answer))
  air-step event (Refuses why) b t benign more = rw (t.1, append-nil) h
  air-step event (Accepts step) b t benign more = go t.1
    where
      go : CarriesOutEvent a event b step → IsAir Sound More b (queues_after_event event (Accepts step) octets)
          (ls ++ answer_log_lines event (answer_without_blocks (Accepts step)))
      go s =
          let e = event_with_frame s.read event in
          let none = accepted event s.read t.0 in
          let known = reads event step.received s.read step s.delivery refl benign in
          let d = event_step e w.ends in
          let reached = happens h.reached e none known.0 in
          let sent = (sent-step a b octets event (Accepts step) h.sent t).1 in
          rw (s.step_matches, s.new_state_is, ← h.ends, ← same-lines s.read event, ← removed-same s.read event octets) (record {
            world = W.world_after_possible_refusal None e w;
            reached = reached;
            ends = refl;
            more = more s.read none known.1;
            coded = coded-sent (queues_after_removal e w.queues) (alike-taken (IsFrameCoding a.channel) e w.queues octets h.coded)
                (sending_role d.who) d.frames reached.fit.queues;
            sent = rw (s.step_matches, s.new_state_is, ← h.ends, ← removed-same s.read event octets) at sent;
          })

initial-air : (Sound : Type 0) (More : World → Type 0) (tsc : ℕ) (channel : Channel) →
    More (initial_world unbounded_capacity channel) → IsAir Sound More (initial_session tsc channel) empty_queues []
initial-air Sound More tsc channel more = record {
  world = initial_world unbounded_capacity channel;
  reached = reached-start Sound channel;
  ends = refl;
  more = more;
  coded = grind arith;
  sent = grind arith;
}

-- ---- a session of several steps

abbrev Any : World → Type 0
Any w = Unit {0}

air-run : (Sound : Type 0) (events : List Event) (answers : List Answer) (a b : AirState) (octets : Queues Octets) (ls : List LogLine) →
    IsAir Sound Any a octets ls → IsAirRun a events answers b → (Sound → IsBenignFrom octets events answers) →
    (os : Queues Octets) × IsAir Sound Any b os (ls ++ session_log events answers)
air-run Sound [] [] a b octets ls h run benign = (octets, rw (run, append-nil) h)
air-run Sound (event ∷ events) (answer ∷ answers) a b octets ls h run benign =
    rw (← append_assoc) (air-run Sound events answers run.0 b (queues_after_event event answer octets) _
    (air-step h event answer run.0 run.1 (λ sound. (benign sound).0) (λ read none says. tt)) run.2 (λ sound. (benign sound).1))
air-run Sound events answers a b octets ls h run benign = absurd assumption

module _ (tsc : ℕ) (channel : Channel) (events : List Event) (answers : List Answer) (b : AirState)
    (run : IsAirRun (initial_session tsc channel) events answers b) where
  air : (os : Queues Octets) × IsAir (IsBenign events answers) Any b os (session_log events answers)
  air = air-run _ events answers (initial_session tsc channel) b empty_queues [] (initial-air _ Any tsc channel tt) run (λ benign. benign)

  pub air_claims : IsBenign events answers → Claims (session_log events answers)
  air_claims benign = claims_of (air.1.reached.session benign)

  pub air_counts : IsBenign events answers → AckedAtMostDelivered (session_log events answers)
  air_counts benign = counts_of (air.1.reached.session benign)

  pub air_order : HasNoticesInOrder (session_log events answers)
  air_order = order_of air.1.world _ air.1.reached.reported

  pub few_inverted_is_benign : AllEventsInvertFewBits events → IsBenign events answers
  few_inverted_is_benign =
      few_inverted-run events answers (initial_session tsc channel) b empty_queues (initial-air ⊥ Any tsc channel tt).sent run

pub longer_run : (a : AirState) (events : List Event) (answers : List Answer) (b : AirState) (event : Event) (answer : Answer)
    (c : AirState) → IsAirRun a events answers b → IsAirStep b event c answer →
    IsAirRun a (events ++ event ∷ []) (answers ++ answer ∷ []) c
longer_run a [] [] b event answer c run step = (c, rw run at step, refl)
longer_run a (e ∷ es) (r ∷ rs) b event answer c run step = (run.0, run.1, longer_run run.0 es rs b event answer c run.2 step)
longer_run a es rs b event answer c run step = absurd assumption

module _ (tsc : ℕ) (channel : Channel) (events : List Event) (answers : List Answer) (a : AirState) (event : Event) (answer : Answer)
    (b : AirState) (run : IsAirRun (initial_session tsc channel) events answers a) (step : IsAirStep a event b answer) where
  pub step_claims : IsBenign (events ++ event ∷ []) (answers ++ answer ∷ []) →
      Claims (session_log (events ++ event ∷ []) (answers ++ answer ∷ []))
  step_claims = air_claims tsc channel _ _ b (longer_run _ events answers a event answer b run step)

  pub step_order : HasNoticesInOrder (session_log (events ++ event ∷ []) (answers ++ answer ∷ []))
  step_order = air_order tsc channel _ _ b (longer_run _ events answers a event answer b run step)

-- ## AnswerExists: Every event whose messages consist of octets has an answer, so a session can always continue: every frame can be coded,
-- and every block can be decoded and read.

pub octets_small : (channel : Channel) (f : Frame) → FrameFits channel f → AreOctets (information f.content) →
    AreOctets (octets_of channel f)
octets_small channel f h info =
    search (arith, All-append IsOctet, All-replicate IsOctet, All-cons IsOctet, All-nil IsOctet, information_bound, bit_bound) depth 9

some_reception : (a : AirState) (sender : Role) (places : List ℕ) (os : List Octets) (blocks : List Block)
    (more : Option EventRefusal) → AllZip (λ o block. IsSentBlock o a.tsc block) os blocks → queue_of sender a.queues ≡ blocks →
    refusal_if (nat_eq (length blocks) 0) Nothing more ≡ None →
    (report : Received) × (read : Option Frame) × ReceivesBlock a sender places report read
some_reception a sender places os [] more sent is none = absurd (cc none)
some_reception a sender places (o ∷ os) (block ∷ others) more sent is none =
    let shape = flipped_shape o a.tsc block sent.0 places in
    let (r, received) = some_received_block _ shape.0 shape.1 in
    let reads = ReadsFrame-frame_in_accepted a.channel r.accepted (accepted_count _ r received) in
    (r, _, record { block = block; later_blocks = others; queue_front = is; received = received; reads_frame = reads })
some_reception a sender places os blocks more sent is none = absurd assumption

some_arrival : (a : AirState) (os : Queues Octets) (event : Event) → AreSent a.tsc os a.queues → refusal event a ≡ None →
    (report : Option Received) × (read : Option Frame) × EventDelivers a event report read
some_arrival a os (Deliver sender places) sent none =
    let r = some_reception a sender places (queue_of sender os) (queue_of sender a.queues) _ (sent sender) refl none in (Some r.0, r.1, r.2)
some_arrival a os event sent none = (None, None, tt)

-- ---- every frame that is sent can be coded

some_blocks : (channel : Channel) (tsc : ℕ) (fs : List Frame) → tsc ≤ 7 → AllFit channel fs → AllSay fs →
    (bs : List Block) × AreBlocksOfFrames channel tsc fs bs
some_blocks channel tsc [] known h said = ([], tt)
some_blocks channel tsc (f ∷ fs) known h said =
    let fits = All-head (FrameFits channel) f fs h in
    let small = octets_small channel f fits (All-head SaysOctets f fs said) in
    let b = some_sent_block (octets_of channel f) tsc (octets_canonical channel f fits).frame.count small known in
    let bs = some_blocks channel tsc fs known (All-tail (FrameFits channel) f fs h) (All-tail SaysOctets f fs said) in
    (b.0 ∷ bs.0, (b.1, bs.1))

-- ---- sessions whose messages consist of octets

notified_octets : (who : Who) (s : Sapi) (ns : List Notice) → LineOctets (notice_log_lines who s ns)
notified_octets (BySide r) s (n ∷ ns) = notified_octets (BySide r) s ns
notified_octets who s ns = tt

line_octets : (read : Option Frame) (event : Event) (answer : E.Answer) → EventMessageIsOctets event →
    LineOctets (answer_log_lines (event_with_frame read event) answer)
line_octets read event answer h = grind (arith, notified_octets)

-- the invariant of a session whose messages consist of octets: so do the messages of the endpoints and the information in transit, and the
-- training sequence code is 0 to 7
record IsOctetSession (a : AirState) : Type 0 where
  octets : Queues Octets
  log : List LogLine
  air : IsAir ⊥ WorldOctets a octets log
  valid_tsc : a.tsc ≤ 7

initial-octet_session : (tsc : ℕ) (channel : Channel) → tsc ≤ 7 → IsOctetSession (initial_session tsc channel)
initial-octet_session tsc channel known = record {
  octets = empty_queues;
  log = [];
  air = initial-air ⊥ WorldOctets tsc channel (initial-octets unbounded_capacity channel);
  valid_tsc = known;
}

module _ (a : AirState) (h : IsOctetSession a) (event : Event) (says : EventMessageIsOctets event) where
  octets-next : (read : Option Frame) → (let e = event_with_frame read event in let w = h.air.world in
      W.refusal e w ≡ None → Knows (λ r f. SaysOctets f) e → WorldOctets (W.world_after_possible_refusal None e w))
  octets-next read none reads =
      let e = event_with_frame read event in
      let w = h.air.world in
      rw none at (octets-step w h.log e h.air.reached.reported (rw none reads) h.air.more (line_octets read event (W.answer e w) says))

  spoken-next : (answer : Answer) (b : AirState) → IsAirStep a event b answer → IsOctetSession b
  spoken-next answer b t = record {
    octets = queues_after_event event answer h.octets;
    log = _;
    air = air-step h.air event answer b t (λ sound. absurd sound) octets-next;
    valid_tsc = rw (sent-step a b h.octets event answer h.air.sent t).0 h.valid_tsc;
  }

  some_answer_at : (o : Option EventRefusal) → refusal event a ≡ o → (b : AirState) × (answer : Answer) × IsAirStep a event b answer
  some_answer_at (Some why) is = (a, Refuses why, (is, refl))
  some_answer_at None is =
      let (report, read, delivery) = some_arrival a h.octets event h.air.sent is in
      let e = event_with_frame read event in
      let w = h.air.world in
      let none = accepted h.air event read is in
      let known = reads h.air event report read (done a e report) delivery refl (λ sound. absurd sound) in
      let fits = event_step-fits a.channel w e (rw none (read-fits h.air.reached e known.0)) h.air.reached.fit none in
      let says = event_step-holds (λ r s x. EndOctets x) SaysOctets _ w e None refl (octets-next read none known.1).1 in
      let bs = some_blocks a.channel a.tsc (event_step e a.ends).frames h.valid_tsc (rw h.air.ends at fits)
      (rw h.air.ends at says) in (
        _,
        Accepts (done a e report),
        (is, record { read = read; blocks = bs.0; delivery = delivery; sent = bs.1; new_state_is = refl; step_matches = refl }),
      )

going_on : (events : List Event) (a : AirState) → IsOctetSession a → All EventMessageIsOctets events →
    (answers : List Answer) × (b : AirState) × IsAirRun a events answers b × IsOctetSession b
going_on [] a h says = ([], a, refl, h)
going_on (event ∷ events) a h says =
    let now = All-head EventMessageIsOctets event events says in
    let (b, answer, step) = some_answer_at a h event now (refusal event a) refl in
    let r = going_on events b (spoken-next a h event now answer b step) (All-tail EventMessageIsOctets event events says) in
    (answer ∷ r.0, r.1, (b, step, r.2), r.3)

pub some_run : (tsc : ℕ) (channel : Channel) (events : List Event) → tsc ≤ 7 → All EventMessageIsOctets events →
    (answers : List Answer) × (b : AirState) × IsAirRun (initial_session tsc channel) events answers b
some_run tsc channel events known said =
    let r = going_on events (initial_session tsc channel) (initial-octet_session tsc channel known) said in (r.0, r.1, r.2)

pub some_answer : (tsc : ℕ) (channel : Channel) (events : List Event) (answers : List Answer) (a : AirState) → tsc ≤ 7 →
    All EventMessageIsOctets events → IsAirRun (initial_session tsc channel) events answers a →
    (event : Event) → EventMessageIsOctets event → (b : AirState) × (answer : Answer) × IsAirStep a event b answer
some_answer tsc channel events answers a known said run event says =
    let r = going_on events (initial_session tsc channel) (initial-octet_session tsc channel known) said in
    let same = one_run (initial_session tsc channel) events r.1 a r.0 answers r.2 run in
    some_answer_at a (rw same.0 at r.3) event says (refusal event a) refl
