-- A side, mobile or network, with its endpoints for SAPI 0 (signalling) and SAPI 3 (short messages); see GSM 04.06, section 3.3.3.
use Rattle.std.specs.Prelude.{nat_eq, if◌then◌else◌, List, [], Option, Some, None}
use Rattle.segmenting.specs.lapdm_frame.declared.Channel.{Channel}
use Rattle.segmenting.specs.lapdm_frame.Content.{Frame}
use Rattle.lapdm_window.specs.declared.Sapi.{Sapi}
use Rattle.lapdm_window.specs.declared.Sapi.TheVariants.{Zero, Three}
use Rattle.lapdm_window.specs.declared.Notice.{Notice}
use Rattle.lapdm_window.specs.Ends.{Role, EndpointState, Outcome, initial_endpoint}
use Rattle.lapdm_window.specs.Calls.{Call, call_outcome}
use Rattle.lapdm_window.specs.Tables.{frame_outcome}

-- the state of both endpoints of a side
pub record SideState : Type 0 where
  pub link0 : EndpointState
  pub link3 : EndpointState

-- the initial state of a side: both endpoints in Idle
abbrev pub idle_side : Role → Channel → SideState
idle_side role channel = record { link0 = initial_endpoint role Zero channel; link3 = initial_endpoint role Three channel }

-- the endpoint that a side has for this SAPI
abbrev pub endpoint_with_sapi : Sapi → SideState → EndpointState
endpoint_with_sapi Zero a = a.link0
endpoint_with_sapi Three a = a.link3

-- the side with its endpoint of this SAPI replaced by the given one
abbrev pub with_sapi_endpoint_replaced : Sapi → EndpointState → SideState → SideState
with_sapi_endpoint_replaced Zero e a = record a { link0 = e }
with_sapi_endpoint_replaced Three e a = record a { link3 = e }

-- the result of a step of a side: the SAPI of the endpoint that acted, the frames and notices of that endpoint, and the state of the side
-- afterwards
pub record SideStep : Type 0 where
  pub sapi : Sapi
  pub frames : List Frame
  pub notices : List Notice
  pub new_state : SideState

-- the step of a side whose endpoint with this SAPI has this outcome
abbrev pub endpoint_step : Sapi → Outcome → SideState → SideStep
endpoint_step sapi o a =
    record { sapi = sapi; frames = o.frames; notices = o.notices; new_state = with_sapi_endpoint_replaced sapi o.new_state a }

-- the step of a side that changes neither endpoint
abbrev pub no_op_step : SideState → SideStep
no_op_step a = record { sapi = Zero; frames = []; notices = []; new_state = a }

-- the step of a side when layer 3 makes this call to the endpoint with this SAPI
abbrev pub layer3_call_step : Sapi → Call → SideState → SideStep
layer3_call_step sapi call a = endpoint_step sapi (call_outcome call (endpoint_with_sapi sapi a)) a

-- the step of a side that receives a frame: the endpoint with the SAPI of the frame receives it, and the side ignores a frame whose SAPI is
-- not 0 or 3
abbrev pub step_for_frame : Frame → SideState → SideStep
step_for_frame f a =
    if nat_eq f.sapi 0 then endpoint_step Zero (frame_outcome f a.link0) a
    else (if nat_eq f.sapi 3 then endpoint_step Three (frame_outcome f a.link3) a else no_op_step a)

-- the step of a side that receives a block: the side receives the frame read from the block, or does nothing if no frame could be read
abbrev pub step_for_read_frame : (read : Option Frame) (state : SideState) → SideStep
step_for_read_frame (Some f) a = step_for_frame f a
step_for_read_frame None a = no_op_step a
