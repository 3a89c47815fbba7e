-- A step of a session as a function: if `IsAirStep` allows an answer to an event, it is this one, with this next state.
use Rattle.std.specs.Prelude.{ℕ, List, [], ◌∷◌, map, Option, Some, None, Result, Ok, Err}
use Rattle.lapdm_link.specs.lapdm_frame.declared.Channel.{Channel}
use Rattle.lapdm_link.specs.lapdm_frame.Content.{Frame}
use Rattle.lapdm_link.specs.lapdm_frame.Frames.{octets_of}
use Rattle.lapdm_link.specs.lapdm_frame.Computed.{frame_reading}
use Rattle.lapdm_link.specs.lapdm_frame.declared.Refusal.{Refusal}
use Rattle.lapdm_link.specs.Queues.{queue_of, with_items_appended}
use Rattle.lapdm_link.specs.Events.{Deliver, SideStep, sending_role, event_step, queues_after_removal, EventRefusal}
use Rattle.um_block.specs.Computed.{sent_block, received_block}
use Rattle.um_block.specs.Received.{soft_bits}
use Rattle.um_block.specs.declared.received.Received.{Received}
use Rattle.um_air.specs.Air.{AirState, Answer, Accepts, Refuses, Block, Event, Octets, event_with_frame, refusal, with_bits_inverted}

abbrev pub frame_of_reading : Result Frame Refusal → Option Frame
frame_of_reading (Ok f) = Some f
frame_of_reading (Err reason) = None

-- the frame in 23 octets, if they encode one; `ReadsFrame` is its law
unfoldable pub frame_in : (channel : Channel) (octets : Octets) → Option Frame
frame_in channel octets = frame_of_reading (frame_reading channel octets)

abbrev pub frame_in_accepted : (channel : Channel) (accepted : Option Octets) → Option Frame
frame_in_accepted channel None = None
frame_in_accepted channel (Some octets) = frame_in channel octets

abbrev pub frame_in_report : (channel : Channel) (report : Option Received) → Option Frame
frame_in_report channel None = None
frame_in_report channel (Some report) = frame_in_accepted channel report.accepted

abbrev pub report_on_oldest : (places : List ℕ) (blocks : List Block) → Option Received
report_on_oldest places [] = None
report_on_oldest places (block ∷ later) = Some (received_block (map soft_bits (with_bits_inverted places block)))

-- the report on the block that an event delivers
abbrev pub report_of : (state : AirState) (event : Event) → Option Received
report_of a (Deliver sender places) = report_on_oldest places (queue_of sender a.queues)
report_of a event = None

-- what the two sides do, once the report on an arriving block is known
abbrev pub after_side_step : (state : AirState) (event : Event) (report : Option Received) (step : SideStep) → AirState × Answer
after_side_step a event report d = (
  record a {
    ends = d.new_state;
    queues = with_items_appended (sending_role d.who) (map (λ f. sent_block (octets_of a.channel f) a.tsc) d.frames)
        (queues_after_removal event a.queues);
  },
  Accepts (record {
    who = d.who;
    sapi = d.sapi;
    received = report;
    frames = map (octets_of a.channel) d.frames;
    notices = d.notices;
  }),
)

abbrev pub air_step_unless : (refused : Option EventRefusal) (state : AirState) (event : Event) → AirState × Answer
air_step_unless (Some why) a event = (a, Refuses why)
air_step_unless None a event =
    let report = report_of a event in
    after_side_step a event report (event_step (event_with_frame (frame_in_report a.channel report) event) a.ends)

-- the state after an event, and the answer to it
abbrev pub air_step : (state : AirState) (event : Event) → AirState × Answer
air_step a event = air_step_unless (refusal event a) a event
