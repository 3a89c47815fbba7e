-- How a Rust `World` represents the state of a session, and when its answers follow the specification.
use Rattle.std.specs.Prelude.{◌≡◌, ◌≤◌, ℕ, List, None, Result, [], IfOk, OnErr}
use Rattle.um_air.specs.lapdm_window.Ends.{Role, Mobile, Network}
use Rattle.um_block.specs.Tallies.{counter_plus}
use Rattle.um_air.specs.lapdm_window.declared.Sapi.{Sapi}
use Rattle.um_air.specs.lapdm_window.declared.Sapi.TheVariants.{Zero, Three}
use Rattle.um_air.specs.lapdm_window.Calls.{Call, Opens, OpensWithoutInfo}
use Rattle.um_air.specs.lapdm_link.Events.{Open, OpenBare, Ask, endpoint_call_of, Who, BySide, OtherMobile, Nobody}
use Rattle.um_air.specs.Air as A
use Rattle.um_air.specs.Air.{Block, AirState, IsAirStep}
use Rattle.um_air.specs.Counts.{sent_frame_count, blocks_received_in_step}
use Rattle.um_link.specs.FourEndpoints as F
use Rattle.um_link.specs.declared.events.No.{No}
use Rattle.um_link.specs.declared.events.Step.{Step}
use Rattle.um_link.specs.declared.links.WorldState.{WorldState}
use Rattle.um_link.specs.Queues.{IsValidQueue}
use Rattle.um_link.specs.Naming.{spec_answer_of, spec_step_of}

-- the blocks in transit that this side sent
abbrev pub queued_blocks : Role → WorldState → List Block
queued_blocks Mobile w = w.up.items
queued_blocks Network w = w.down.items

-- world `w` represents session state `a`: its endpoints represent the endpoints of `a`, and the same blocks are in transit
pub record Represents (w : WorldState) (a : AirState) : Type 0 where
  pub tsc : w.tsc ≡ a.tsc
  pub channel : w.channel ≡ a.channel
  pub ends : F.Represents w.ends a.ends
  pub up : w.up.items ≡ a.queues.up
  pub down : w.down.items ≡ a.queues.down

-- the invariant of a world: the training sequence code is 0 to 7, all endpoints use the same channel, and both queues are valid
pub record IsValidWorld (w : WorldState) : Type 0 where
  pub tsc : w.tsc ≤ 7
  pub channel : w.channel ≡ F.channel_of_ends w.ends
  pub ends : F.AreSidesOn (F.channel_of_ends w.ends) w.ends
  pub up : IsValidQueue w.up
  pub down : IsValidQueue w.down

-- for every state that the old world represents, the specification allows this answer to the event, and the new world represents the
-- resulting state
abbrev pub StepRefines : (event : A.Event) (old : WorldState) (result : Result Step No) (new : WorldState) → Type 0
StepRefines event old result new = (a : AirState) → Represents old a →
    (b : AirState) × Represents new b × IsAirStep a event b (spec_answer_of result)

-- the event is the layer 3 call `call` to the endpoint with this role and SAPI
abbrev pub IsLayer3CallTo : (event : A.Event) (role : Role) (sapi : Sapi) (call : Call) → Type 0
IsLayer3CallTo (Open info) role sapi call = (role ≡ Mobile) × (sapi ≡ Zero) × (call ≡ Opens info)
IsLayer3CallTo (OpenBare asked) role sapi call = (role ≡ asked) × (sapi ≡ Three) × (call ≡ OpensWithoutInfo)
IsLayer3CallTo (Ask asked link request) role sapi call = (role ≡ asked) × (sapi ≡ link) × (call ≡ endpoint_call_of request)
IsLayer3CallTo event role sapi call = ⊥

-- for every state that the old world represents, the specification allows no answer to the event other than this result
abbrev pub IsOnlyPossibleAnswer : (event : A.Event) (old : WorldState) (result : Result Step No) → Type 0
IsOnlyPossibleAnswer event old result =
    (a : AirState) → Represents old a → (b : AirState) (answer : A.Answer) → IsAirStep a event b answer →
    answer ≡ spec_answer_of result

-- if another mobile acts, nothing is received or reported; if nobody acts, nothing is sent either
abbrev pub ActorCanTakeStep : (who : Who) (step : A.Step) → Type 0
ActorCanTakeStep (BySide role) s = Unit {0}
ActorCanTakeStep OtherMobile s = (s.received ≡ None) × (s.notices ≡ [])
ActorCanTakeStep Nobody s = (s.received ≡ None) × (s.notices ≡ []) × (s.frames ≡ [])

abbrev pub StepFitsItsActor : A.Step → Type 0
StepFitsItsActor s = ActorCanTakeStep s.who s

-- what a world does for an event, apart from its use of the radio: the specification allows the answer, the invariant holds, a refused
-- event changes nothing, and an accepted one has an actor who can take the step
pub record IsWorldStep (event : A.Event) (old : WorldState) (result : Result Step No) (new : WorldState) : Type 0 where
  pub refines : StepRefines event old result new
  pub valid : IsValidWorld new
  pub refused : OnErr result (new ≡ old)
  pub fits_actor : IfOk result (λ step. StepFitsItsActor (spec_step_of step))

-- the radio counted each frame that the step sent and each block that it received, and is unchanged if the event is refused; `sent` and
-- `heard` are its two counters
pub record CountsBlocksOfStep {Radio : Type 0} (sent heard : Radio → ℕ) (result : Result Step No) (old new : Radio) : Type 0 where
  pub unchanged : OnErr result (new ≡ old)
  pub sent_rose : sent new ≡ counter_plus (sent_frame_count (spec_answer_of result)) (sent old)
  pub heard_rose : heard new ≡ counter_plus (blocks_received_in_step (spec_answer_of result)) (heard old)

-- the step neither sent nor received a block
abbrev pub UsesNoRadio : Result Step No → Type 0
UsesNoRadio result =
    (sent_frame_count (spec_answer_of result) ≡ 0) × (blocks_received_in_step (spec_answer_of result) ≡ 0)
