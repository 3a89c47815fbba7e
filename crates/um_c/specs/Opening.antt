-- Three calls that establish the link of SAPI 0 between two endpoints.
use Rattle.std.specs.Prelude.{ℕ, ◌≡◌, ◌≤◌, List, [], ◌∷◌, length, slice_index_or, true, Option, Some, None}
use Rattle.lapdm_frame.specs.Content.{Frame, Sabm}
use Rattle.lapdm_frame.specs.Layout.{n201}
use Rattle.um_air.specs.segmenting.Segments.{Message}
use Rattle.um_air.specs.lapdm_window.declared.Sapi.{Sapi}
use Rattle.um_air.specs.lapdm_window.declared.Sapi.TheVariants.{Zero, Three}
use Rattle.um_air.specs.lapdm_window.declared.State.TheVariants.{Idle, Open}
use Rattle.um_air.specs.lapdm_window.Ends.{Role, Mobile, Network, EndpointState, command_cr}
use Rattle.um_air.specs.lapdm_window.Calls.{Opens, IsCallAllowedForEndpoint, refusal_of}
use Rattle.um_air.specs.lapdm_window.Tables.{frame_outcome}
use Rattle.um_air.specs.lapdm_link.Queues.{empty_queues}
use Rattle.um_c.specs.declared.states.CEndpoint.{CEndpoint}
use Rattle.um_c.specs.declared.effects.CEffects.{CEffects}
use Rattle.um_c.specs.Joined.{ProgramState, ProgramStep, Calls, TakesOldestBlock}

-- the struct of the endpoint with this role and SAPI in a program that has only these two endpoints of SAPI 0; `None` for SAPI 3
abbrev pub endpoint_with_role_and_sapi : (mobile network : CEndpoint) (role : Role) (sapi : Sapi) → Option CEndpoint
endpoint_with_role_and_sapi mobile network Mobile Zero = Some mobile
endpoint_with_role_and_sapi mobile network Network Zero = Some network
endpoint_with_role_and_sapi mobile network r Three = None

-- a program that has these two endpoints of SAPI 0, and no block in transit
abbrev pub program_of_two_endpoints : (mobile network : CEndpoint) → ProgramState
program_of_two_endpoints mobile network = record { state = endpoint_with_role_and_sapi mobile network; queues = empty_queues }

-- the first block that a call sends
abbrev pub first_block : CEffects → List ℕ
first_block output = slice_index_or output.frames 0 []

-- the three steps that establish the link: the mobile's call sends a SABM, the network receives it, and the mobile receives the UA
abbrev pub establishment_steps : (info : Message) (asked answered opened : CEffects) → List ProgramStep
establishment_steps info asked answered opened =
    Calls Mobile Zero (Opens info) 0 asked ∷ TakesOldestBlock Network Zero (first_block asked) 0 answered
    ∷ TakesOldestBlock Mobile Zero (first_block answered) 0 opened ∷ []

-- ---- the endpoints when all three calls succeed

-- the SABM of a mobile that establishes the link of SAPI 0 with this information
abbrev pub sabm_with_info : Message → Frame
sabm_with_info info = record { sapi = 0; cr = command_cr Mobile; content = Sabm true info }

-- the mobile can establish the link with this information, and the network answers its SABM with one frame
pub record CanEstablishLink (info : Message) (mobile network : EndpointState) : Type 0 where
  pub same_channel : mobile.channel ≡ network.channel
  pub allowed : IsCallAllowedForEndpoint mobile (Opens info)
  pub not_refused : refusal_of (Opens info) mobile ≡ None
  pub one_answer : length (frame_outcome (sabm_with_info info) network).frames ≡ 1

-- the endpoint has this role and SAPI 0, and is in Idle
pub record IsIdleEndpoint (r : Role) (e : EndpointState) : Type 0 where
  pub role : e.role ≡ r
  pub sapi : e.sapi ≡ Zero
  pub state : e.state ≡ Idle

-- both endpoints of the link of SAPI 0 are in Idle, and the information fits in a frame
pub record BothAreIdle (info : Message) (mobile network : EndpointState) : Type 0 where
  pub mobile_idle : IsIdleEndpoint Mobile mobile
  pub network_idle : IsIdleEndpoint Network network
  pub same_channel : mobile.channel ≡ network.channel
  pub nonempty : 1 ≤ length info
  pub fits : length info ≤ n201 mobile.channel

-- the mobile's endpoint after the three calls that establish the link
abbrev pub mobile_after_establishment : Message → EndpointState → EndpointState
mobile_after_establishment info e = record e { state = Open; sabm_info = info; retries = 0 }

-- the network's endpoint after the three calls that establish the link
abbrev pub network_after_establishment : Message → EndpointState → EndpointState
network_after_establishment info e = record e { state = Open; sabm_info = info }
