-- One step of an endpoint: a call, which may be refused, or a received frame.
use Rattle.std.specs.Prelude.{◌≡◌, map, Option, Some, None, Result, Ok, Err}
use Rattle.segmenting.specs.lapdm_frame.declared.Channel.{Channel}
use Rattle.segmenting.specs.lapdm_frame.Content.{Frame}
use Rattle.segmenting.specs.lapdm_frame.Frames.{FrameFits, octets_of}
use Rattle.segmenting.specs.Segments.{Message}
use Rattle.lapdm_window.specs.declared.Notice.{Notice}
use Rattle.lapdm_window.specs.declared.Notice.TheVariants.{Got}
use Rattle.lapdm_window.specs.declared.Refused.{Refused}
use Rattle.lapdm_window.specs.declared.effects.Effects.{Effects}
use Rattle.lapdm_window.specs.Ends.{EndpointState, Outcome}
use Rattle.lapdm_window.specs.Calls.{Call, IsCallAllowedForEndpoint, refusal_of, call_outcome}
use Rattle.lapdm_window.specs.Tables.{frame_outcome}

-- the input of an endpoint step: a call or a received frame
pub data StepInput : Type 0 where
  Asked : Call → StepInput
  Received : Frame → StepInput

-- the input is possible for this endpoint: a call that exists for its side and SAPI, or any frame that fits in a block of its channel
abbrev pub IsPossibleInput : (endpoint : EndpointState) (input : StepInput) → Type 0
IsPossibleInput e (Asked call) = IsCallAllowedForEndpoint e call
IsPossibleInput e (Received f) = FrameFits e.channel f

-- the result of a call: the reason for its refusal if there is one, otherwise its outcome
abbrev pub outcome_unless_refused : (refused : Option Refused) (outcome : Outcome) → Result Outcome Refused
outcome_unless_refused None o = Ok o
outcome_unless_refused (Some refusal) o = Err refusal

-- the outcome of a step, or the reason why the call is refused; a refused call leaves the endpoint unchanged
abbrev pub step : StepInput → EndpointState → Result Outcome Refused
step (Asked call) e = outcome_unless_refused (refusal_of call e) (call_outcome call e)
step (Received f) e = Ok (frame_outcome f e)

-- the message that a `Got` notice delivers to layer 3, or `None` for any other notice
abbrev pub message_in_got_notice : Notice → Option Message
message_in_got_notice (Got m) = Some m
message_in_got_notice other = None

-- endpoints `e` and `f` have the same side, SAPI and channel
pub record IsSameEndpoint (e f : EndpointState) : Type 0 where
  pub role : f.role ≡ e.role
  pub sapi : f.sapi ≡ e.sapi
  pub channel : f.channel ≡ e.channel

-- the Rust `effects` hold exactly the frames of outcome `o`, encoded as octets, and its notices
pub record HasEffects (effects : Effects) (channel : Channel) (o : Outcome) : Type 0 where
  pub frames : effects.frames ≡ map (octets_of channel) o.frames
  pub notices : effects.notices ≡ o.notices
