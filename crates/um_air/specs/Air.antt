-- The radio path between the two sides: the blocks in transit and what happens to them. The octets of a frame are defined in `lapdm_frame`
-- (GSM 04.06, section 3), the coding and reception of a block in `um_block` (GSM 05.03, section 4.1).
use Rattle.std.specs.Prelude.{◌≡◌, ℕ, ◌-◌, ◌/◌, ◌%◌, List, [], ◌∷◌, map, slice_index_or, slice_set, Option}
use Rattle.std.specs.Prelude.{Some, None}
use Rattle.std.specs.List.{AllZip}
use Rattle.lapdm_link.specs.lapdm_frame.declared.Channel.{Channel}
pub use Rattle.lapdm_link.specs.lapdm_frame.AcceptedBlocks.{ReadsFrame}
use Rattle.lapdm_link.specs.lapdm_frame.Content.{Frame}
use Rattle.lapdm_link.specs.lapdm_frame.Frames.{octets_of}
use Rattle.lapdm_link.specs.lapdm_window.declared.Sapi.{Sapi}
use Rattle.lapdm_link.specs.lapdm_window.declared.Notice.{Notice}
use Rattle.lapdm_link.specs.lapdm_window.Ends.{Role}
use Rattle.um_block.specs.declared.received.Received.{Received}
use Rattle.um_block.specs.Sent.{IsSentBlock}
use Rattle.um_block.specs.Received.{IsReceivedBlock, soft_bits}
use Rattle.lapdm_link.specs.Queues.{Queues, empty_queues, queue_of, with_items_appended, queue_length}
use Rattle.lapdm_link.specs.Events as E
use Rattle.lapdm_link.specs.Events.{SessionEvent, Open, OpenBare, Ask, Deliver, Lose, Rival, BothSides, idle_endpoints, Who, sending_role}
use Rattle.lapdm_link.specs.Events.{SideStep, event_step, queues_after_removal, EventRefusal, refusal_with_bounded_queues}

-- the 23 octets of a block before coding
abbrev pub Octets : Type 0
Octets = List ℕ

-- a coded block: four bursts of 148 bits (GSM 05.02, section 5.2.3)
abbrev pub Block : Type 0
Block = List (List ℕ)

-- an event of a session; an arrival lists the indices, 0 to 591, of the bits that are inverted in the block
abbrev pub Event : Type 0
Event = SessionEvent (List ℕ)

-- the event as the endpoints see it: an arriving block becomes the frame read from it, or `None` if there is none
abbrev pub event_with_frame : (read : Option Frame) (event : Event) → E.Event
event_with_frame read (Open info) = Open info
event_with_frame read (OpenBare role) = OpenBare role
event_with_frame read (Ask role sapi request) = Ask role sapi request
event_with_frame read (Deliver sender places) = Deliver sender read
event_with_frame read (Lose sender) = Lose sender
event_with_frame read (Rival info) = Rival info

-- the state of a session: training sequence code (0 to 7), channel, endpoints, and blocks in transit
pub record AirState : Type 0 where
  pub tsc : ℕ
  pub channel : Channel
  pub ends : BothSides
  pub queues : Queues Block

-- the initial state of a session: idle endpoints, and no blocks in transit
abbrev pub initial_session : (tsc : ℕ) (channel : Channel) → AirState
initial_session tsc channel = record { tsc = tsc; channel = channel; ends = idle_endpoints channel; queues = empty_queues }

-- the block with the bit at this index inverted, where the bits of the four bursts have the indices 0 to 591
abbrev pub with_bit_inverted : (place : ℕ) (block : Block) → Block
with_bit_inverted place block =
    let burst = slice_index_or block (place / 148) [] in
    slice_set block (place / 148) (slice_set burst (place % 148) (1 - slice_index_or burst (place % 148) 0))

-- the block with the bits at these indices inverted; an index that occurs twice leaves its bit unchanged
abbrev pub with_bits_inverted : (places : List ℕ) (block : Block) → Block
with_bits_inverted [] block = block
with_bits_inverted (place ∷ places) block = with_bits_inverted places (with_bit_inverted place block)

-- the oldest block from `sender` arrives with the bits at `places` inverted; the receiver reports `report` and reads the frame `read`, if
-- any
pub record ReceivesBlock (state : AirState) (sender : Role) (places : List ℕ) (report : Received) (read : Option Frame) : Type 0 where
  pub block : Block
  pub later_blocks : List Block
  pub queue_front : queue_of sender state.queues ≡ block ∷ later_blocks
  pub received : IsReceivedBlock (map soft_bits (with_bits_inverted places block)) report
  pub reads_frame : ReadsFrame state.channel report.accepted read

-- if a block arrives, the receiver reports on it and may read a frame from it; any other event has neither a report nor a frame
abbrev pub EventDelivers : (state : AirState) (event : Event) (report : Option Received) (read : Option Frame) → Type 0
EventDelivers a (Deliver sender places) (Some report) read = ReceivesBlock a sender places report read
EventDelivers a (Deliver sender places) None read = ⊥
EventDelivers a event None None = Unit {0}
EventDelivers a event report read = ⊥

-- the blocks carry these frames, in order, each coded with this training sequence code
abbrev pub AreBlocksOfFrames : (channel : Channel) (tsc : ℕ) (frames : List Frame) (blocks : List Block) → Type 0
AreBlocksOfFrames channel tsc fs blocks = AllZip (λ f block. IsSentBlock (octets_of channel f) tsc block) fs blocks

-- the result of an accepted event: who acted, the SAPI, the report on a received block, the octets of the frames sent, and the notices
-- reported
pub record Step : Type 0 where
  pub who : Who
  pub sapi : Sapi
  pub received : Option Received
  pub frames : List Octets
  pub notices : List Notice

-- the answer to an event: the reason for its refusal, or its result
pub data Answer : Type 0 where
  Refuses : EventRefusal → Answer
  Accepts : Step → Answer

-- the accepted event leads from state `before` to state `after` with result `step`: the endpoints act on the call or on the frame read, and
-- the frames that they send are coded and appended to the queue
pub record CarriesOutEvent (before : AirState) (event : Event) (after : AirState) (step : Step) : Type 0 where
  pub read : Option Frame
  pub blocks : List Block
  pub delivery : EventDelivers before event step.received read
  pub sent : AreBlocksOfFrames before.channel before.tsc (event_step (event_with_frame read event) before.ends).frames blocks
  pub new_state_is : let d = event_step (event_with_frame read event) before.ends in
      after ≡ record before {
        ends = d.new_state;
        queues = with_items_appended (sending_role d.who) blocks (queues_after_removal event
            before.queues);
      }
  pub step_matches : let d = event_step (event_with_frame read event) before.ends in
      step ≡ record step { who = d.who; sapi = d.sapi; frames = map (octets_of before.channel) d.frames; notices = d.notices }

-- the reason why the event is refused in this state, or `None` if it is accepted
abbrev pub refusal : Event → AirState → Option EventRefusal
refusal event a = refusal_with_bounded_queues a.channel (queue_length a.queues) event a.ends

-- the event leads from `state` to `after` and has this answer; a refused event leaves the state unchanged
abbrev pub IsAirStep : (state : AirState) (event : Event) (after : AirState) (answer : Answer) → Type 0
IsAirStep a event b (Refuses why) = (refusal event a ≡ Some why) × (b ≡ a)
IsAirStep a event b (Accepts step) = (refusal event a ≡ None) × CarriesOutEvent a event b step

-- the events lead from `state` to `after` and have these answers, in order
abbrev pub IsAirRun : (state : AirState) (events : List Event) (answers : List Answer) (after : AirState) → Type 0
IsAirRun a [] [] b = b ≡ a
IsAirRun a (event ∷ events) (answer ∷ answers) b = (c : AirState) × IsAirStep a event c answer × IsAirRun c events answers b
IsAirRun a events answers b = ⊥
