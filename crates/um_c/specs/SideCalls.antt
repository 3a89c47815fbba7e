-- What the side calls of the C library return: a call goes to the endpoint of one SAPI, and the other endpoint stays unchanged.
use Rattle.std.specs.Prelude.{ℕ, ◌≡◌, ◌≢◌, Bool, List, Some, None}
use Rattle.lapdm_frame.specs.declared.Channel.{Channel}
use Rattle.lapdm_frame.specs.Content.{Frame}
use Rattle.lapdm_frame.specs.Readings.{IsOnlyEncodedFrame}
use Rattle.um_air.specs.lapdm_window.declared.Sapi.{Sapi}
use Rattle.um_air.specs.lapdm_window.declared.Sapi.TheVariants.{Zero, Three}
use Rattle.um_air.specs.lapdm_window.Calls.{Call}
use Rattle.lapdm_end.specs.Sides.{other}
use Rattle.um_c.specs.declared.states.CEndpoint.{CEndpoint}
use Rattle.um_c.specs.declared.sides.CSide.{CSide}
use Rattle.um_c.specs.declared.effects.CEffects.{CEffects}
use Rattle.um_c.specs.Plain.{channel_of}
use Rattle.um_c.specs.States.{sapi_of, sapi_number}
use Rattle.um_c.specs.EndCalls.{EndpointAnswersCall, EndpointReceivesBlock, IsNewEndpointResult}

-- the two endpoints have SAPI 0 and SAPI 3, and the same role and channel
pub record IsValidSide (side : CSide) : Type 0 where
  pub sapi0 : side.link0.sapi ≡ 0
  pub sapi3 : side.link3.sapi ≡ 3
  pub same_role : side.link0.role ≡ side.link3.role
  pub same_channel : side.link0.channel ≡ side.link3.channel

-- the endpoint of the side with this SAPI
abbrev pub endpoint_of : Sapi → CSide → CEndpoint
endpoint_of Zero s = s.link0
endpoint_of Three s = s.link3

-- a new side has new endpoints for SAPI 0 and SAPI 3; if the role or channel is invalid, the call returns false and writes nothing
pub record IsNewSideResult (role channel : ℕ) (answer : Bool) (before after : CSide) : Type 0 where
  pub link0 : IsNewEndpointResult role 0 channel answer before.link0 after.link0
  pub link3 : IsNewEndpointResult role 3 channel answer before.link3 after.link3

-- the endpoint with this SAPI is called, and the other stays unchanged; the call returns 8 if no endpoint has this SAPI, and 7 if the two
-- endpoints do not form a side; unless it returns 0, it writes nothing
pub record SideAnswersCall (sapi : ℕ) (call : Call) (answer : ℕ) (before after : CSide) (output_old output : CEffects) : Type 0 where
  pub answers_call : IsValidSide before → (s : Sapi) → Some s ≡ sapi_of sapi →
      EndpointAnswersCall call answer (endpoint_of s before) (endpoint_of s after) output_old output
  pub other_unchanged : (s : Sapi) → Some s ≡ sapi_of sapi → endpoint_of (other s) after ≡ endpoint_of (other s) before
  pub no_such_sapi : IsValidSide before → None ≡ sapi_of sapi → answer ≡ 8
  pub not_a_side : (IsValidSide before → ⊥) → answer ≡ 7
  pub unchanged : answer ≢ 0 → (after ≡ before) × (output ≡ output_old)

-- the block encodes a frame with SAPI 3
abbrev pub IsFrameOnSapi3 : (channel : ℕ) (octets : List ℕ) → Type 0
IsFrameOnSapi3 channel octets = (c : Channel) × (f : Frame) × (Some c ≡ channel_of channel) × IsOnlyEncodedFrame c f octets
    × (f.sapi ≡ 3)

-- the endpoint with SAPI `s` receives the block, the other stays unchanged, and `reported_sapi` is the number of `s` if the call returns 0
pub record SidePassesBlock (s : Sapi) (octets : List ℕ) (answer : ℕ) (before after : CSide) (reported_sapi : ℕ)
    (output_old output : CEffects) : Type 0
  where
    pub answers_block : EndpointReceivesBlock octets answer (endpoint_of s before) (endpoint_of s after) output_old output
    pub other_unchanged : endpoint_of (other s) after ≡ endpoint_of (other s) before
    pub reports_sapi : answer ≡ 0 → reported_sapi ≡ sapi_number s

-- a frame with SAPI 3 goes to the endpoint of SAPI 3, and any other block to the endpoint of SAPI 0
pub record SideReceivesBlock (octets : List ℕ) (answer : ℕ) (before after : CSide) (old_sapi reported_sapi : ℕ)
    (output_old output : CEffects) : Type 0
  where
    pub sapi3_frame_to_sapi3_endpoint : IsValidSide before → IsFrameOnSapi3 before.link0.channel octets →
        SidePassesBlock Three octets answer before after reported_sapi output_old output
    pub other_block_to_sapi0_endpoint : IsValidSide before → ¬ IsFrameOnSapi3 before.link0.channel octets →
        SidePassesBlock Zero octets answer before after reported_sapi output_old output
    pub not_a_side : (IsValidSide before → ⊥) → answer ≡ 7
    pub unchanged : answer ≢ 0 → (after ≡ before) × (reported_sapi ≡ old_sapi) × (output ≡ output_old)
