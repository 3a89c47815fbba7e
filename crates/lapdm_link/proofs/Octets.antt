-- Octets in messages and in frames.
use Rattle.{
  lapdm_link.{
    proofs.{Acting.{Goes, Says, StepFacts, ends, is_called, taken-frame}, Events.{AllFrames, KnowsBy, end_of, said}, Fitting.Holds},
    proofs.{Fitting.holds-step, Links.taken, Order.AllReported, Rules.known},
    specs.{Claims.{Asked, LogLine, Notified, RivalSabm, answer_log_lines, message_sent_by_call}, Events.{Event, QueueCapacity, other}},
    specs.Worlds.{World, answer, initial_world, refusal, world_after},
  },
  lapdm_window.specs.{
    Calls.{Call, Opens, SendsUi, Sends, call_outcome, refusal_of},
    Ends.{EndpointState, HasWindowOfOne, Outcome, segments_of_all_messages},
    Tables.frame_outcome,
    declared.Sapi.Sapi,
    lapdm_frame.{Content.{Content, Frame, I, Sabm, Ua, Ui, information}, Layout.n201, declared.Channel.Channel},
    segmenting.{Joining.messages, Segments.{Message, Segment, cut_segments, segments}},
  },
  std.proofs.Common.{All, Bool, List, None, Option, Some, [], arith, false, get_or, inl, inr, length, subst, suc, sym, zero, ℕ, ◌<◌},
  std.proofs.{Common.{◌∷◌, ◌≡◌}, lemmas.List.Elements.{All-append, All-cons, All-drop, All-head, All-nil, All-tail, All-take}},
  std.specs.List.{cons_option, filter_map, flat_map},
}

-- ## Octets: If all messages consist of octets (numbers from 0 to 255), so does the information of every frame in transit.

abbrev pub AreOctets : List ℕ → Type 0
AreOctets m = All (λ octet. octet < 256) m

abbrev pub CallOctets : Call → Type 0
CallOctets (Opens info) = AreOctets info
CallOctets (Sends m) = AreOctets m
CallOctets (SendsUi m) = AreOctets m
CallOctets other = Unit {0}

abbrev pub LineOctets : List LogLine → Type 0
LineOctets [] = Unit {0}
LineOctets (Asked r s call ∷ ls) = CallOctets call × LineOctets ls
LineOctets (RivalSabm info ∷ ls) = AreOctets info × LineOctets ls
LineOctets (Notified r s n ∷ ls) = LineOctets ls

abbrev pub AllMessages : List Message → Type 0
AllMessages ms = All AreOctets ms

abbrev SegmentOctets : Segment → Type 0
SegmentOctets p = AreOctets p.0

pub record EndOctets (e : EndpointState) : Type 0 where
  pub sabm_info : AreOctets e.sabm_info
  pub messages : AllMessages e.messages

abbrev pub SaysOctets : Frame → Type 0
SaysOctets f = AreOctets (information f.content)

abbrev pub AllSay : List Frame → Type 0
AllSay fs = All SaysOctets fs

abbrev pub WorldOctets : World → Type 0
WorldOctets w = (channel : Channel) × Holds (λ r s e. EndOctets e) SaysOctets channel w

pub none : AreOctets []
none = All-nil (λ octet. octet < 256)

none_sent : AllMessages []
none_sent = All-nil _

-- ---- segments
-- the segments of a message of octets consist of octets
cut_segments-octets : (n k : ℕ) (m : Message) → AreOctets m → All SegmentOctets (cut_segments n k m)
cut_segments-octets n zero m h = All-cons SegmentOctets _ [] h (All-nil _)
cut_segments-octets n (suc k) m h =
    All-cons SegmentOctets _ _ (All-take (λ octet. octet < 256) n m h) (cut_segments-octets n k _ (All-drop (λ octet. octet < 256) n m h))

all-octets : (n : ℕ) (ms : List Message) → AllMessages ms → All SegmentOctets (flat_map (segments n) ms)
all-octets n [] h = All-nil _
all-octets n (m ∷ ms) h =
    All-append SegmentOctets (segments n m) (flat_map (segments n) ms) (cut_segments-octets n _ m (All-head AreOctets m ms h))
    (all-octets n ms (All-tail AreOctets m ms h))

octets_carried : (x : EndpointState) (info : List ℕ) (more : Bool) (i : ℕ) → EndOctets x →
    i < length (segments_of_all_messages x) →
    get_or (segments_of_all_messages x) i ([], false) ≡ (info, more) → AreOctets info
octets_carried x info more i h l e = rw e at (all-octets (n201 x.channel) x.messages h.messages i ([], false) l)

-- ---- frames sent
-- the message or information in the call, if there is a call, consists of octets
abbrev OctetsBy : Option Call → Type 0
OctetsBy None = Unit {0}
OctetsBy (Some call) = CallOctets call

said-octets : (call : Option Call) (x z : EndpointState) → OctetsBy call → EndOctets z → (c : Content) → Says call x z c →
    AreOctets (information c)
said-octets call x z said h (I ns nr p more info) a = octets_carried z _ _ a.0 h a.1 a.2
said-octets call x z said h (Sabm p info) a = rw a.1 at h.sabm_info
said-octets call x z said h (Ui p info) (inl e) = rw e at said
said-octets call x z said h (Ui p info) (inr e) = rw e.1 none
said-octets call x z said h (Ua f info) (inl e) = rw e.1 at h.sabm_info
said-octets call x z said h (Ua f info) (inr e) = rw e.0 none
said-octets call x z said h other a = subst AreOctets (sym a) none

frames-octets : (Says : Content → Type 0) → ((c : Content) → Says c → AreOctets (information c)) →
    (s : Sapi) (fs : List Frame) → AllFrames Says s fs → AllSay fs
frames-octets Says octets s [] h = All-nil _
frames-octets Says octets s (f ∷ fs) h = All-cons SaysOctets f fs (octets f.content h.1) (frames-octets _ octets s fs h.2)

-- ---- the SABM information that an endpoint keeps and the messages that it sends

kept-octets : (call : Option Call) (c : Content) (x : EndpointState) (o : Outcome) → OctetsBy call → AreOctets (information c) →
    AreOctets x.sabm_info → Goes call c x o → AreOctets o.new_state.sabm_info
kept-octets call c x o h g k l = grind arith

sent-octets : (call : Option Call) → OctetsBy call → AllMessages (filter_map message_sent_by_call (cons_option call []))
sent-octets call h = grind arith

pub record OutcomeOctets (o : Outcome) : Type 0 where
  pub end_octets : EndOctets o.new_state
  pub frames : AllSay o.frames

done-octets : (call : Option Call) (c : Content) (x : EndpointState) (o : Outcome) → StepFacts call c x o → OctetsBy call →
    AreOctets (information c) → EndOctets x → OutcomeOctets o
done-octets call c x o d said octets h =
    let taken : AllMessages o.new_state.messages = rw d.messages (All-append AreOctets x.messages _ h.messages (sent-octets call said)) in
    let end : EndOctets o.new_state = record { sabm_info = kept-octets _ c x o said octets h.sabm_info d.goes; messages = taken } in
    record { end_octets = end; frames = frames-octets _ (said-octets call x o.new_state said end) x.sapi _ d.frames }

pub frame-octets : (f : Frame) (x : EndpointState) → AreOctets (information f.content) → HasWindowOfOne x → EndOctets x →
    OutcomeOctets (frame_outcome f x)
frame-octets f x octets e h = done-octets None f.content x _ (taken-frame x e f) tt octets h

pub call-octets : (call : Call) (x : EndpointState) → CallOctets call → refusal_of call x ≡ None → HasWindowOfOne x →
    EndOctets x → OutcomeOctets (call_outcome call x)
call-octets call x said ok e h = done-octets (Some call) (Ui false []) x _ (is_called x e _ ok) said none h

pub octets-step : (w : World) (ls : List LogLine) (event : Event) → AllReported w ls →
    KnowsBy (refusal event w) (λ sender f. AreOctets (information f.content)) event → WorldOctets w →
    LineOctets (answer_log_lines event (answer event w)) → WorldOctets (world_after event w)
octets-step w ls event reported known h said = (
  h.0,
  holds-step (λ r s e. EndOctets e) SaysOctets LineOctets (λ sender. SaysOctets) h.0 w h.1
      (λ r s call placed ok l. pair (call-octets call (end_of r s w) l.0 ok (reported r s).window_of_one (h.1.ends r s)))
      (λ r s f octets. pair (frame-octets f (end_of r s w) octets (reported r s).window_of_one (h.1.ends r s)))
      (λ info ok l. l.0) event known said,
)
  where
    pair : {o : Outcome} → OutcomeOctets o → EndOctets o.new_state × AllSay o.frames
    pair g = (g.end_octets, g.frames)

pub initial-octets : (capacity : QueueCapacity) (channel : Channel) → WorldOctets (initial_world capacity channel)
initial-octets capacity channel = grind arith
