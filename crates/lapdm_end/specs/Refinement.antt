-- When a call of the Rust `Endpoint` implements a rule of the specification.
use Rattle.std.specs.Prelude.{◌≡◌, ◌++◌, map, Result}
use Rattle.std.specs.Result.{result_err}
use Rattle.lapdm_frame.specs.Frames.{octets_of}
use Rattle.lapdm_window.specs.declared.Refused.{Refused}
use Rattle.lapdm_window.specs.declared.effects.Effects.{Effects}
use Rattle.lapdm_window.specs.Ends.{EndpointState, Outcome}
use Rattle.lapdm_window.specs.Calls.{Call, refusal_of}
use Rattle.lapdm_window.specs.Steps.{HasEffects}
use Rattle.lapdm_end.specs.declared.ends.Endpoint.{Endpoint}
use Rattle.lapdm_end.specs.Abstraction.{Represents}

-- for every state that the old `Endpoint` represents, the new `Endpoint` represents the state after this rule, and the effects are exactly
-- the frames and notices of the rule
abbrev pub StepRefines : (rule : (EndpointState → Outcome)) (old : Endpoint) (effects : Effects) (new : Endpoint) → Type 0
StepRefines rule old effects new = (e : EndpointState) → Represents old e →
    Represents new (rule e).new_state × HasEffects effects e.channel (rule e)

-- for every state that the `Endpoint` represents, the call is refused if and only if the specification refuses it, and for the same reason
abbrev pub RefusesAsSpecified : {A : Type 0} (call : Call) (old : Endpoint) (result : Result A Refused) → Type 0
RefusesAsSpecified call old result = (e : EndpointState) → Represents old e → result_err result ≡ refusal_of call e

-- endpoint `m` represents the state after outcome `o`, and appending the frames and notices of `o` to `old` yields `new`
pub record AppendsOutcome (m : Endpoint) (old new : Effects) (o : Outcome) : Type 0 where
  pub represents : Represents m o.new_state
  pub frames : new.frames ≡ old.frames ++ map (octets_of m.address.channel) o.frames
  pub notices : new.notices ≡ old.notices ++ o.notices

-- for every state that the old `Endpoint` represents, the new `Endpoint` represents the state after this rule, and the frames and notices
-- of the rule are appended to the effects
abbrev pub StepAppendsOutcomeOfRule : (rule : (EndpointState → Outcome)) (endpoint new_endpoint : Endpoint) (old new : Effects) → Type 0
StepAppendsOutcomeOfRule rule m n old new = (e : EndpointState) → Represents m e → AppendsOutcome n old new (rule e)
