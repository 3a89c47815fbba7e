-- Every frame in transit fits in a block.
use Rattle.{
  lapdm_link.{
    proofs.Events.{IsPlaced, KnowsBy, acted, by_kind, each_lost, each_way, end_of, ends_do, said, way-acted_other, way-acted, way},
    proofs.Events.without_oldest_item,
    specs.{Claims.{LogLine, RivalSabm, answer_log_lines}, Events.{BothSides, Deliver, EventRefusal, Event, QueueCapacity, SideStep}},
    specs.Events.{event_step, other, queues_after_removal, rival_refusal, rival_sabm, sending_role, side_with_role},
    specs.{Events.step_with_peer_unchanged, Queues.{Queues, queue_of, with_items_appended}, Worlds.{ArrivingFrameFits, SentFramesFit}},
    specs.Worlds.{World, answer_unless_refused, answers, answer, initial_world, refusal, world_after_possible_refusal, world_after},
  },
  lapdm_window.{
    proofs.Lemmas.{Keeps, bound-call, bound-frame, by_sapi, keeps-call, keeps-frame},
    specs.{Calls.{Call, IsCallAllowedForEndpoint, call_outcome, refusal_of}, Ends.{EndpointState, IsValidEndpoint, Mobile, Network}},
    specs.{Ends.{Outcome, Role}, Tables.frame_outcome, declared.Sapi.Sapi, lapdm_frame.{Content.Frame, Frames.FrameFits}},
    specs.{lapdm_frame.declared.Channel.Channel, segmenting.Segments.Message},
  },
  std.proofs.Common.{All, List, None, Option, Some, [], arith, length, refl, zero, ◌∷◌, ◌≡◌, ◌≤◌},
  std.proofs.{Math.Seq.drop-append_seam, lemmas.List.Elements.{All-append, All-cons, All-drop, All-head, All-nil, All-push, All-tail}},
}
use Rattle.lapdm_link.specs.Queues as W
use Rattle.lapdm_window.specs.Sides as S

-- ## Fitting: If every arriving frame fits in a block of the channel, so does every frame in transit. The proof is by cases on the event.

-- ---- the invariant that a property E holds for each endpoint and a property F holds for each frame in transit

module _ (E : Role → Sapi → EndpointState → Type 0) (F : Frame → Type 0) where
  pub record Holds (channel : Channel) (w : World) : Type 0 where
    pub on_channel : w.channel ≡ channel
    pub ends : (r : Role) (s : Sapi) → E r s (end_of r s w)
    pub queues : (r : Role) → All F (way r w)

  Holds-acts : (channel : Channel) (r : Role) (s : Sapi) (o : Outcome) (w : World) → Holds channel w → E r s o.new_state
      × All F o.frames →
      Holds channel (acted r s o w)
  Holds-acts channel r s o w h g = record {
    on_channel = h.on_channel;
    ends = ends_do (λ r' s' e. E r' s' e) r s o w g.0 (λ r' s' n. h.ends r' s');
    queues = each_way (λ r'. All F (way r' (acted r s o w))) r (rw (way-acted r s o w) (All-append F _ _ (h.queues r) g.1))
        (rw (way-acted_other r s o w) (h.queues _));
  }

  lost : (channel : Channel) (w : World) → Holds channel w → (sender : Role) → Holds channel (without_oldest_item sender w)
  lost channel w h sender = record {
    on_channel = h.on_channel;
    ends = h.ends;
    queues = each_lost (λ r fs. All F fs) (λ r fs g. All-drop F 1 fs g) _ w h.queues;
  }

  -- an event preserves the invariant `Holds` if every call, every received frame and every SABM of another mobile does
  pub holds-step : (Says : List LogLine → Type 0) (Known : Role → Frame → Type 0) (channel : Channel) (w : World) →
      Holds channel w → ((r : Role) (s : Sapi) (call : Call) → IsPlaced r s call → refusal_of call (end_of r s w) ≡ None →
      (let o = call_outcome call (end_of r s w) in Says (said r s (call ∷ []) o.notices) → E r s o.new_state × All F o.frames)) →
      ((r : Role) (s : Sapi) (f : Frame) → Known (other r) f →
      (let o = frame_outcome f (end_of r s w) in E r s o.new_state × All F o.frames)) →
      ((info : Message) → rival_refusal w.channel info ≡ None → Says (RivalSabm info ∷ []) → F (rival_sabm info)) →
      (event : Event) → KnowsBy (refusal event w) Known event → Says (answer_log_lines event (answer event w)) →
      Holds channel (world_after event w)
  holds-step Says Known channel w h called queues_after_removal rival event known = by_kind w (λ z new. Says new →
      Holds channel z) Known (λ l. h)
      (λ r s call placed ok l. Holds-acts _ r s (call_outcome call (end_of r s w)) w h (called r s _ placed ok l))
      (λ r s f on k l. Holds-acts _ r s (frame_outcome f (end_of r s w)) _ (lost channel w h (other r)) (queues_after_removal r s f k))
      (λ sender l. lost channel w h sender) (λ info ok l. record {
        on_channel = h.on_channel;
        ends = h.ends;
        queues = each_way _ Mobile (All-push F _ _ (h.queues Mobile) (rival info ok l)) (h.queues Network);
      }) _ known

pub record FitsEnd (channel : Channel) (r : Role) (s : Sapi) (e : EndpointState) : Type 0 where
  pub on_channel : e.channel ≡ channel
  pub of_role : e.role ≡ r
  pub on_sapi : e.sapi ≡ s
  pub valid : IsValidEndpoint e

abbrev pub AllFit : Channel → List Frame → Type 0
AllFit channel fs = All (FrameFits channel) fs

abbrev pub IsFitting : Channel → World → Type 0
IsFitting channel w = Holds (FitsEnd channel) (FrameFits channel) channel w

has_call : (r : Role) (s : Sapi) (call : Call) (x : EndpointState) → IsPlaced r s call → x.role ≡ r → x.sapi ≡ s →
    IsCallAllowedForEndpoint x call
has_call r s call x placed role at = grind arith

fits-kept : (channel : Channel) (r : Role) (s : Sapi) (e : EndpointState) (o : Outcome) → FitsEnd channel r s e → Keeps e o →
    FitsEnd channel r s o.new_state × AllFit channel o.frames
fits-kept channel r s e o h g = grind arith

rival_fits : (channel : Channel) (w : World) (info : Message) → w.channel ≡ channel → rival_refusal w.channel info ≡ None →
    FrameFits channel (rival_sabm info)
rival_fits channel w info same ok = grind arith

pub fits-step : (channel : Channel) (w : World) (event : Event) → KnowsBy (refusal event w) (λ sender f. FrameFits channel f) event →
    IsFitting channel w → IsFitting channel (world_after event w)
fits-step channel w event known h = holds-step _ _ (λ ls. Unit {0}) (λ sender f. FrameFits channel f) _ w h
    (λ r s call placed ok l. fits-kept _ r s (end_of r s w) _ (h.ends r s)
    (keeps-call _ _ (h.ends r s).valid (has_call r s _ (end_of r s w) placed (h.ends r s).of_role (h.ends r s).on_sapi) ok))
    (λ r s f fits. fits-kept _ r s _ _ (h.ends r s) (keeps-frame f _ (h.ends r s).valid (rw (h.ends r s).on_channel fits)))
    (λ info ok l. rival_fits _ w _ h.on_channel ok) _ known tt

pub initial-fits : (capacity : QueueCapacity) (channel : Channel) → IsFitting channel (initial_world capacity channel)
initial-fits capacity channel = grind arith

pub with_items_appended-all : (F : Frame → Type 0) (r : Role) (fs : List Frame) (ws : Queues Frame) →
    ((r' : Role) → All F (W.queue_of r' (with_items_appended r fs ws))) → All F fs
with_items_appended-all F Mobile fs ws h = rw drop-append_seam at (All-drop F (length ws.up) _ (h Mobile))
with_items_appended-all F Network fs ws h = rw drop-append_seam at (All-drop F (length ws.down) _ (h Network))

pub event_step-holds : (E : Role → Sapi → EndpointState → Type 0) (F : Frame →
    Type 0) (channel : Channel) (w : World) (event : Event) (o : Option EventRefusal) →
    o ≡ None → Holds E F channel (world_after_possible_refusal o event w) → All F (event_step event w.ends).frames
event_step-holds E F channel w event o none h =
    with_items_appended-all F (sending_role (event_step event w.ends).who) _ (queues_after_removal event w.queues) (rw none at h).queues

pub event_step-fits : (channel : Channel) (w : World) (event : Event) →
    KnowsBy (refusal event w) (λ sender f. FrameFits channel f) event → IsFitting channel w → refusal event w ≡ None →
    AllFit channel (event_step event w.ends).frames
event_step-fits channel w event known h none =
    event_step-holds (FitsEnd channel) (FrameFits channel) channel w event (refusal event w) none (fits-step _ w _ known h)

-- ---- a step sends at most two frames and reports at most two notices, and each frame fits in a block

abbrev HasAtMost2 : SideStep → Type 0
HasAtMost2 d = (length d.frames ≤ 2) × (length d.notices ≤ 2)

bound-step_for_frame : (r : Role) (f : Frame) (es : BothSides) → HasAtMost2
    (step_with_peer_unchanged r (S.step_for_frame f (side_with_role r es)) es)
bound-step_for_frame r f es = by_sapi f _ (λ d. HasAtMost2 (step_with_peer_unchanged r d es)) (λ zero. (let h = bound-frame f _ in
    (h.frames, h.notices))) (λ three. (let h = bound-frame f _ in (h.frames, h.notices))) (λ e e'. (omega arith, omega arith))

bound-event_step : (event : Event) (es : BothSides) → HasAtMost2 (event_step event es)
bound-event_step (Deliver sender (Some f)) es = bound-step_for_frame _ f es
bound-event_step event es = grind (arith, bound-call)

SentFramesFit-answer : (channel : Channel) (w : World) (event : Event) (o : Option EventRefusal) →
    IsFitting channel (world_after_possible_refusal o event w) → SentFramesFit channel (answer_unless_refused o (event_step event w.ends))
SentFramesFit-answer channel w event (Some why) h = tt
SentFramesFit-answer channel w event None h =
    let few = bound-event_step event w.ends in
    (few.0, event_step-holds _ _ _ w event None refl h, few.1)

ArrivingFrameFits-known : (channel : Channel) (o : Option EventRefusal) (event : Event) → ArrivingFrameFits channel event →
    KnowsBy o (λ sender f. FrameFits channel f) event
ArrivingFrameFits-known channel o event h = grind arith

small-run : (channel : Channel) (events : List Event) (w : World) → All (ArrivingFrameFits channel) events → IsFitting channel w →
    All (SentFramesFit channel) (answers events w)
small-run channel [] w h fit = All-nil _
small-run channel (event ∷ events) w h fit =
    let known = ArrivingFrameFits-known channel (refusal event w) event (All-head (ArrivingFrameFits channel) event _ h) in
    let fit' = fits-step _ w event known fit in
    All-cons (SentFramesFit channel) (answer event w) _ (SentFramesFit-answer channel w event (refusal event w) fit')
    (small-run channel events (world_after event w) (All-tail (ArrivingFrameFits channel) event events h) fit')

pub small_answers : (capacity : QueueCapacity) (channel : Channel) (events : List Event) → All (ArrivingFrameFits channel) events →
    All (SentFramesFit channel) (answers events (initial_world capacity channel))
small_answers capacity channel events h = small-run _ _ _ h (initial-fits _ _)
