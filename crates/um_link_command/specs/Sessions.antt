-- How the `link` command answers the lines of a script (this project's own rule).
use Rattle.std.specs.Prelude.{ℕ, List, [], ◌∷◌, ◌++◌, Option, Some, None}
use Rattle.um_link.specs.lapdm_frame.declared.Channel.{Channel}
use Rattle.um_script.specs.ScriptLines.{script_line}
use Rattle.um_script.specs.AnswerLines.{answer_text}
use Rattle.um_link.specs.um_air.Air.{Event, Answer, AirState, initial_session}
use Rattle.um_link.specs.um_air.Computed.{air_step}
use Rattle.um_driver.specs.Rules.{Rules, answer_to_meaning}

-- a session so far: its events, their answers, and the state of both sides and the radio path after them
pub record LinkSession : Type 0 where
  pub events : List Event
  pub answers : List Answer
  pub air : AirState

-- a session before its first event
abbrev pub new_session : (tsc : ℕ) (channel : Channel) → LinkSession
new_session tsc channel = record { events = []; answers = []; air = initial_session tsc channel }

-- the session extended by one event, its answer, and the state after it
abbrev pub session_with_step : LinkSession → Event → Answer → AirState → LinkSession
session_with_step s event answer air = record { events = s.events ++ event ∷ []; answers = s.answers ++ answer ∷ []; air = air }

-- the text of the answer to an event, and the session after it
abbrev pub answer_to_event : (session : LinkSession) (event : Event) → List ℕ × LinkSession
answer_to_event s event =
    let step = air_step s.air event in
    (answer_text step.1, session_with_step s event step.1 step.0)

-- the answer to a line with this meaning, and the session after it; a skipped line has no answer
abbrev pub answer_to_script_line : (session : LinkSession) (meaning : Option Event) → List ℕ × LinkSession
answer_to_script_line s None = ([], s)
answer_to_script_line s (Some event) = answer_to_event s event

-- the rules of the `link` command; the script may end after any line
abbrev pub link_command_rules : Rules LinkSession
link_command_rules = record {
  step = λ s line. answer_to_meaning (answer_to_script_line s) (script_line line);
  end_fault = λ s. None;
}
