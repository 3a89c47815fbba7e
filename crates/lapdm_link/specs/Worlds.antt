-- Sessions that exchange frames: the state of the four endpoints and of the frames in transit between them.
use Rattle.std.specs.Prelude.{◌≡◌, ◌≤◌, ℕ, true, All, List, [], ◌∷◌, length, Option, Some, None}
use Rattle.lapdm_window.specs.lapdm_frame.declared.Channel.{Channel}
use Rattle.lapdm_window.specs.lapdm_frame.Content.{Content, I, Rr, Rej, Dm, Frame}
use Rattle.lapdm_window.specs.lapdm_frame.Frames.{FrameFits}
use Rattle.lapdm_window.specs.declared.Sapi.{Sapi}
use Rattle.lapdm_window.specs.Ends.{Role, sapi_number, va}
use Rattle.lapdm_link.specs.Queues.{Queues, empty_queues, queue_of, with_items_appended, queue_length, IsOldestSentOrNone}
use Rattle.lapdm_link.specs.Events.{Event, Deliver, BothSides, idle_endpoints, sending_role, SideStep, event_step, queues_after_removal}
use Rattle.lapdm_link.specs.Events.{other, endpoint_at}
use Rattle.lapdm_link.specs.Events.{QueueCapacity, bounded_capacity, EventRefusal, refusal_with_capacity, Answer, Refuses, Accepts}

-- the state of a session: the capacity of its queues, the channel, the endpoints, and the frames in transit
pub record World : Type 0 where
  pub capacity : QueueCapacity
  pub channel : Channel
  pub ends : BothSides
  pub queues : Queues Frame

-- the initial state of a session with this queue capacity
abbrev pub initial_world : QueueCapacity → Channel → World
initial_world capacity channel = record {
  capacity = capacity;
  channel = channel;
  ends = idle_endpoints channel;
  queues =
      empty_queues;
}

-- the initial state of a session with queues for 64 blocks
abbrev pub initial_session : Channel → World
initial_session channel = initial_world bounded_capacity channel

-- the reason why the event is refused in this state, or `None` if it is carried out
abbrev pub refusal : Event → World → Option EventRefusal
refusal event w = refusal_with_capacity w.capacity w.channel (queue_length w.queues) event w.ends

-- the answer to an event, given the reason for its refusal, if any, and the step that it would otherwise cause
abbrev pub answer_unless_refused : (refused : Option EventRefusal) (step : SideStep) → Answer
answer_unless_refused (Some why) d = Refuses why
answer_unless_refused None d = Accepts d.who d.sapi d.frames d.notices

-- the answer to an event in this state of the session
abbrev pub answer : Event → World → Answer
answer event w = answer_unless_refused (refusal event w) (event_step event w.ends)

-- the state of the session after a step: the endpoints are in their new state, and the frames sent are appended to the queue of the side
-- that acted
abbrev pub world_after_step : SideStep → World → World
world_after_step d w = record w { ends = d.new_state; queues = with_items_appended (sending_role d.who) d.frames w.queues }

-- the state of the session after an event, given the reason for the refusal of the event, if any
abbrev pub world_after_possible_refusal : (refused : Option EventRefusal) (event : Event) (world : World) → World
world_after_possible_refusal (Some why) event w = w
world_after_possible_refusal None event w =
    world_after_step (event_step event w.ends) (record w { queues = queues_after_removal event w.queues })

-- the state of the session after an event; a refused event does not change the state
abbrev pub world_after : Event → World → World
world_after event w = world_after_possible_refusal (refusal event w) event w

-- the answers to a list of events, in order
abbrev pub answers : (events : List Event) (world : World) → List Answer
answers [] w = []
answers (event ∷ events) w = answer event w ∷ answers events (world_after event w)

-- the event is benign: if it delivers a frame and is not refused, the receiver reads the oldest frame in transit, or none
abbrev pub IsBenignEvent : (refused : Option EventRefusal) (event : Event) (world : World) → Type 0
IsBenignEvent None (Deliver sender read) w = IsOldestSentOrNone read (queue_of sender w.queues)
IsBenignEvent refused event w = Unit {0}

-- the session is benign: each frame arrives in order and unchanged, or not at all
abbrev pub IsBenign : (events : List Event) (world : World) → Type 0
IsBenign [] w = Unit {0}
IsBenign (event ∷ events) w = IsBenignEvent (refusal event w) event w × IsBenign events (world_after event w)

-- replaces a REJ by an RR with the same N(R) and P/F bit; any other content is unchanged
abbrev pub rej_replaced_by_rr : Content → Content
rej_replaced_by_rr (Rej nr pf) = Rr nr pf
rej_replaced_by_rr c = c

-- the content with this N(R), if it has one
abbrev pub with_nr : (nr : ℕ) (content : Content) → Content
with_nr n (I ns nr p more info) = I ns n p more info
with_nr n (Rr nr pf) = Rr n pf
with_nr n (Rej nr pf) = Rej n pf
with_nr n c = c

-- what may be read where a frame was sent to this side: the frame itself, an RR with the same N(R) if it is a REJ, a DM with F = 1 on its
-- SAPI, or the frame with an N(R) that acknowledges nothing, since it equals V(A) of the endpoint that reads it
pub data MayBeReadFor (reader : Role) (ends : BothSides) (read sent : Frame) : Type 0 where
  as_sent : read ≡ sent → MayBeReadFor reader ends read sent
  rr_for_rej : read ≡ record sent { content = rej_replaced_by_rr sent.content } → MayBeReadFor reader ends read sent
  dm_for_any : read.sapi ≡ sent.sapi → read.content ≡ Dm true → MayBeReadFor reader ends read sent
  without_ack : (sapi : Sapi) → sent.sapi ≡ sapi_number sapi →
      read ≡ record sent { content = with_nr (va (endpoint_at reader sapi ends)) (rej_replaced_by_rr sent.content) } →
      MayBeReadFor reader ends read sent

-- the frame read by this side, if any, is the oldest frame sent to it, or may be read for it
abbrev pub IsOldestSentOrReplaced : (reader : Role) (ends : BothSides) (read : Option Frame) (sent : List Frame) → Type 0
IsOldestSentOrReplaced reader ends None sent = Unit {0}
IsOldestSentOrReplaced reader ends (Some f) [] = ⊥
IsOldestSentOrReplaced reader ends (Some f) (first ∷ others) = MayBeReadFor reader ends f first

-- if the event delivers a frame and is not refused, the receiver reads the oldest frame in transit, or none, or what may be read for it
abbrev pub IsBenignEventExceptReplaced : (refused : Option EventRefusal) (event : Event) (world : World) → Type 0
IsBenignEventExceptReplaced None (Deliver sender read) w =
    IsOldestSentOrReplaced (other sender) w.ends read (queue_of sender w.queues)
IsBenignEventExceptReplaced refused event w = Unit {0}

-- the session is benign, except that the receiver may read for a frame what `MayBeReadFor` allows
abbrev pub IsBenignExceptReplaced : (events : List Event) (world : World) → Type 0
IsBenignExceptReplaced [] w = Unit {0}
IsBenignExceptReplaced (event ∷ events) w = IsBenignEventExceptReplaced (refusal event w) event w
    × IsBenignExceptReplaced events (world_after event w)

-- if the event delivers a frame, the frame fits in a block of the channel (every frame that is read from a block does)
abbrev pub ArrivingFrameFits : (channel : Channel) (event : Event) → Type 0
ArrivingFrameFits channel (Deliver sender (Some f)) = FrameFits channel f
ArrivingFrameFits channel event = Unit {0}

-- the answer has at most two frames, each of which fits in a block of the channel, and at most two notices
abbrev pub SentFramesFit : (channel : Channel) (answer : Answer) → Type 0
SentFramesFit channel (Refuses why) = Unit {0}
SentFramesFit channel (Accepts who sapi frames notices) = (length frames ≤ 2) × All (FrameFits channel) frames × (length notices ≤ 2)
