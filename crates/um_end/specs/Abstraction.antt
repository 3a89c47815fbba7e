-- The abstraction relation of a terminal, and when its answers are those that the specification computes.
use Rattle.std.specs.Prelude.{◌≡◌, ℤ, List, Result}
use Rattle.um_link.specs.lapdm_window.Ends.{Role}
use Rattle.lapdm_end.specs.Sides as L
use Rattle.um_link.specs.um_air.Air.{Event}
use Rattle.um_link.specs.declared.events.No.{No}
use Rattle.um_link.specs.declared.events.Step.{Step}
use Rattle.um_link.specs.Naming.{spec_role_of, spec_step_of, spec_answer_of}
use Rattle.um_end.specs.Terminals.{SideState, answer_to_call, answer_to_block}
use Rattle.um_end.specs.declared.terminal.Terminal.{Terminal}

-- the role of a terminal: mobile or network
abbrev pub role_of_terminal : Terminal → Role
role_of_terminal t = spec_role_of t.side

-- the endpoints of the terminal represent those of the side state `state`
abbrev pub Represents : (terminal : Terminal) (state : SideState) → Type 0
Represents t a = L.Represents t.links a

-- for every state that the old terminal represents, the result is the answer to the call, and the new terminal represents the state after
-- it
abbrev pub CallRefinesSideStep : (event : Event) (old : Terminal) (result : Result Step No) (new : Terminal) → Type 0
CallRefinesSideStep event old result new = (a : SideState) → Represents old a →
    let next = answer_to_call (role_of_terminal old) a event in
    Represents new next.0 × (spec_answer_of result ≡ next.1)

-- for every state that the old terminal represents, the result is that of the four received bursts, and the new terminal represents the
-- state after it
abbrev pub BurstsRefineSideStep : (bursts : List (List ℤ)) (old : Terminal) (result : Step) (new : Terminal) → Type 0
BurstsRefineSideStep bursts old result new = (a : SideState) → Represents old a →
    let next = answer_to_block (role_of_terminal old) a bursts in
    Represents new next.0 × (spec_step_of result ≡ next.1)

-- both terminals have the same side and training sequence code
pub record KeepsSideAndTsc (old new : Terminal) : Type 0 where
  pub side : new.side ≡ old.side
  pub tsc : new.tsc ≡ old.tsc
