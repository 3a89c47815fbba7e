-- A terminal: one side, whose endpoints for SAPI 0 and 3 on SDCCH receive layer 3 calls and groups of four bursts (this project's own
-- rule). The reaction of an endpoint is defined in `lapdm_window` (GSM 04.06, section 5), the reception of bursts in `um_block` (GSM 05.03,
-- section 4.1).
use Rattle.std.specs.Prelude.{◌≡◌, ℤ, List, map, Option, Some, None}
use Rattle.um_link.specs.lapdm_frame.declared.Channel.TheVariants.{Sdcch}
use Rattle.um_link.specs.lapdm_frame.Content.{Frame}
use Rattle.um_link.specs.lapdm_frame.Frames.{octets_of}
use Rattle.um_link.specs.lapdm_window.declared.Sapi.{Sapi}
use Rattle.um_link.specs.lapdm_window.declared.Sapi.TheVariants.{Three}
use Rattle.um_link.specs.lapdm_window.Ends.{Role, Mobile}
use Rattle.um_link.specs.lapdm_window.Calls.{Call, refusal_of}
use Rattle.um_link.specs.um_block.declared.received.Received.{Received}
use Rattle.um_link.specs.um_block.Computed.{received_block}
use Rattle.um_link.specs.um_block.Received.{IsReceivedBlock}
use Rattle.um_link.specs.lapdm_link.Events.{Open, OpenBare, Ask, Idle, BySide, EventRefusal, as_event_refusal}
pub use Rattle.um_link.specs.lapdm_window.Sides.{
  SideState,
  idle_side,
  endpoint_with_sapi,
  with_sapi_endpoint_replaced,
  SideStep,
  endpoint_step,
  no_op_step,
  layer3_call_step,
}
pub use Rattle.um_link.specs.lapdm_window.Sides.{step_for_frame, step_for_read_frame}
use Rattle.um_link.specs.um_air.Air.{Octets, Event, ReadsFrame, Step, Answer, Refuses, Accepts}
use Rattle.um_link.specs.um_air.Computed.{frame_in_accepted}
use Rattle.um_end.specs.CallEvents.{sapi_of_call_event, endpoint_call_in_event}

-- the result of a step of a side, with the report on the block received, if any, and the frames sent as octets
abbrev pub terminal_step_of : (role : Role) (received : Option Received) (step : SideStep) → Step
terminal_step_of role received d = record {
  who = BySide role;
  sapi = d.sapi;
  received = received;
  frames = map (octets_of Sdcch) d.frames;
  notices = d.notices;
}

-- ---- calls

-- the event is a call that this side supports: only the mobile establishes SAPI 0, either side establishes SAPI 3, and only the endpoint of
-- SAPI 0 sends fill frames
abbrev pub IsCallOfRole : (role : Role) (event : Event) → Type 0
IsCallOfRole role (Open info) = role ≡ Mobile
IsCallOfRole role (OpenBare other) = other ≡ role
IsCallOfRole role (Ask other Three Idle) = ⊥
IsCallOfRole role (Ask other sapi request) = other ≡ role
IsCallOfRole role event = ⊥

-- the state of the side after a call, and the answer; a refused call changes nothing
abbrev pub call_answer_unless : (refused : Option EventRefusal) (role : Role) (state : SideState) (step : SideStep) → SideState × Answer
call_answer_unless (Some why) role a d = (a, Refuses why)
call_answer_unless None role a d = (d.new_state, Accepts (terminal_step_of role None d))

-- the same for a call to the endpoint with this SAPI
abbrev pub answer_of_endpoint : (role : Role) (state : SideState) (sapi : Sapi) (call : Call) → SideState × Answer
answer_of_endpoint role a sapi call =
    call_answer_unless (as_event_refusal (refusal_of call (endpoint_with_sapi sapi a))) role a (layer3_call_step sapi call a)

-- the state of the side after the call that an event requests, and the answer
abbrev pub answer_to_call : (role : Role) (state : SideState) (event : Event) → SideState × Answer
answer_to_call role a event = answer_of_endpoint role a (sapi_of_call_event event) (endpoint_call_in_event event)

-- ---- bursts

-- the step of a side that receives a block: if the accepted octets encode a frame, the endpoint with its SAPI receives it
abbrev pub step_for_accepted : (accepted : Option Octets) (state : SideState) → SideStep
step_for_accepted accepted a = step_for_read_frame (frame_in_accepted Sdcch accepted) a

-- the state of the side after four bursts of soft values, which are received as a block, and the result
abbrev pub answer_to_block : (role : Role) (state : SideState) (bursts : List (List ℤ)) → SideState × Step
answer_to_block role a bursts =
    let report = received_block bursts in
    let d = step_for_accepted report.accepted a in
    (d.new_state, terminal_step_of role (Some report) d)

-- the law of `answer_to_block`: four bursts of soft values are received as a block; if the accepted octets encode a frame, the endpoint
-- with its SAPI receives it
pub record ReceivesBursts (role : Role) (before : SideState) (bursts : List (List ℤ)) (after : SideState) (step : Step) : Type 0 where
  pub report : Received
  pub frame : Option Frame
  pub received : IsReceivedBlock bursts report
  pub reads : ReadsFrame Sdcch report.accepted frame
  pub new_state_is : after ≡ (step_for_read_frame frame before).new_state
  pub step_is_terminal_step : step ≡ terminal_step_of role (Some report) (step_for_read_frame frame before)
