-- What the endpoint calls of the C library return, in terms of the specification of an endpoint.
use Rattle.std.specs.Prelude.{ℕ, ◌≡◌, ◌≢◌, Bool, true, false, List, map, Option, Some, None}
use Rattle.lapdm_frame.specs.declared.Channel.{Channel}
use Rattle.lapdm_frame.specs.declared.Refusal.{Refusal}
use Rattle.lapdm_frame.specs.Content.{Frame}
use Rattle.lapdm_frame.specs.Frames.{octets_of}
use Rattle.lapdm_frame.specs.Readings.{IsOnlyEncodedFrame, IsOnlyRefusalReason}
use Rattle.um_air.specs.lapdm_window.declared.Sapi.{Sapi}
use Rattle.um_air.specs.lapdm_window.declared.Refused.{Refused}
use Rattle.um_air.specs.lapdm_window.declared.Refused.TheVariants as No
use Rattle.um_air.specs.lapdm_window.Ends.{EndpointState, Outcome, initial_endpoint}
use Rattle.um_air.specs.lapdm_window.Calls.{Call, IsCallAllowedForEndpoint, refusal_of, call_outcome}
use Rattle.um_air.specs.lapdm_window.Tables.{frame_outcome}
use Rattle.lapdm_end.specs.Addresses as L
use Rattle.lapdm_end.specs.declared.Role.{Role}
use Rattle.um_c.specs.declared.states.CEndpoint.{CEndpoint}
use Rattle.um_c.specs.declared.effects.CEffects.{CEffects}
use Rattle.um_c.specs.Plain.{channel_of}
use Rattle.um_c.specs.States.{role_of, sapi_of, StructRepresents}
use Rattle.um_c.specs.Effects.{c_effects}

-- the number in the C API for the refusal of a call, 1 to 6; 0 means success
abbrev pub call_refusal_number : Refused → ℕ
call_refusal_number No.NotIdle = 1
call_refusal_number No.NotOpen = 2
call_refusal_number No.NotRunning = 3
call_refusal_number No.Empty = 4
call_refusal_number No.TooLong = 5
call_refusal_number No.Full = 6

-- the call returns 0, `after` represents the endpoint after `outcome`, and `output` holds the frames and notices of `outcome`
pub record SucceedsWithOutcome (channel : Channel) (outcome : Outcome) (answer : ℕ) (after : CEndpoint) (output : CEffects) : Type 0
  where
    pub answer_is_0 : answer ≡ 0
    pub represents : StructRepresents after outcome.new_state
    pub effects : output ≡ c_effects (map (octets_of channel) outcome.frames) outcome.notices

-- the endpoint in `before` carries out or refuses the call; the call returns 8 if the endpoint does not support it, and 7 if `before`
-- represents no endpoint; unless it returns 0, it writes nothing
pub record EndpointAnswersCall (call : Call) (answer : ℕ) (before after : CEndpoint) (output_old output : CEffects) : Type 0 where
  pub carried_out : (e : EndpointState) → StructRepresents before e → IsCallAllowedForEndpoint e call → refusal_of call e ≡ None →
      SucceedsWithOutcome e.channel (call_outcome call e) answer after output
  pub refused : (e : EndpointState) → StructRepresents before e → IsCallAllowedForEndpoint e call → (reason : Refused) →
      refusal_of call e ≡ Some reason → answer ≡ call_refusal_number reason
  pub unsupported_call : (e : EndpointState) → StructRepresents before e → (IsCallAllowedForEndpoint e call → ⊥) → answer ≡ 8
  pub invalid_struct : ((e : EndpointState) → StructRepresents before e → ⊥) → answer ≡ 7
  pub unchanged : answer ≢ 0 → (after ≡ before) × (output ≡ output_old)

-- the endpoint receives the frame that the block encodes; the call returns 9 if the block encodes no frame, and 7 if `before` represents no
-- endpoint; unless it returns 0, it writes nothing
pub record EndpointReceivesBlock (octets : List ℕ) (answer : ℕ) (before after : CEndpoint) (output_old output : CEffects) : Type 0 where
  pub carried_out : (e : EndpointState) → StructRepresents before e → (f : Frame) → IsOnlyEncodedFrame e.channel f octets →
      SucceedsWithOutcome e.channel (frame_outcome f e) answer after output
  pub invalid_frame : (e : EndpointState) → StructRepresents before e → (reason : Refusal) →
      IsOnlyRefusalReason e.channel octets reason →
      answer ≡ 9
  pub invalid_struct : ((e : EndpointState) → StructRepresents before e → ⊥) → answer ≡ 7
  pub unchanged : answer ≢ 0 → (after ≡ before) × (output ≡ output_old)

-- if the role, SAPI and channel are valid, the call returns true, and `after` represents a new endpoint; otherwise it returns false and
-- writes nothing
abbrev pub WritesEndpointIfValid : (role : Option Role) (sapi : Option Sapi) (channel : Option Channel) (answer : Bool)
    (before after : CEndpoint) → Type 0
WritesEndpointIfValid (Some role) (Some sapi) (Some channel) answer before after =
    (answer ≡ true) × StructRepresents after (initial_endpoint (L.spec_role_of role) sapi channel)
WritesEndpointIfValid role sapi channel answer before after = (answer ≡ false) × (after ≡ before)

-- if the three numbers are a valid role, SAPI and channel, the call returns true, and `after` represents a new endpoint; otherwise it
-- returns false and writes nothing
abbrev pub IsNewEndpointResult : (role sapi channel : ℕ) (answer : Bool) (before after : CEndpoint) → Type 0
IsNewEndpointResult role sapi channel answer before after = WritesEndpointIfValid (role_of role) (sapi_of sapi) (channel_of channel) answer
    before after
