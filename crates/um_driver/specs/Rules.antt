-- The rules of a command: a function that answers lines one after the other (this project's own rule).
use Rattle.std.specs.Prelude.{ℕ, ◌≡◌, List, [], ◌∷◌, ◌++◌, length, nat_lt, Option, None, Result, Ok, Err, MatchResult}
use Rattle.std.specs.Prelude.{if◌then◌else◌}
use Rattle.um_io.specs.Reading.{line_limit}
use Rattle.um_lines.specs.declared.fault.LineFault.{LineFault}
use Rattle.um_lines.specs.declared.fault.LineFault.TheVariants.{Long}

-- the rules of a command: `step` gives the answer to a line and the next state, or the first reason to refuse the line; `end_fault` is the
-- reason why the input must not end in a state, if any
pub record Rules (State : Type 0) : Type 0 where
  pub step : State → List ℕ → Result (List ℕ × State) LineFault
  pub end_fault : State → Option LineFault

abbrev pub stateless_step : Result (List ℕ) LineFault → Result (List ℕ × Unit {0}) LineFault
stateless_step (Ok answer) = Ok (answer, tt)
stateless_step (Err fault) = Err fault

-- the rules of a command that keeps no state between lines, so that its input may end after any line
abbrev pub stateless : (List ℕ → Result (List ℕ) LineFault) → Rules (Unit {0})
stateless answer = record { step = λ _ line. stateless_step (answer line); end_fault = λ _. None }

-- the answer to a line, from the meaning of the line
abbrev pub answer_to_meaning : {Meaning Answer : Type 0} (answer : (Meaning → Answer)) (parsed : Result Meaning LineFault) →
    Result Answer LineFault
answer_to_meaning answer (Ok meaning) = Ok (answer meaning)
answer_to_meaning answer (Err fault) = Err fault

-- a command as a state machine: its states, its rules and its first state
pub record Machine : Type 1 where
  pub State : Type 0
  pub rules : Rules State
  pub start : State

-- the answer to a line and the next state, or the reason why the line is refused: `Long` if it exceeds the line limit, otherwise what the
-- rules give
abbrev pub answer_to_line : {State : Type 0} (rules : Rules State) (state : State) (line : List ℕ) →
    Result (List ℕ × State) LineFault
answer_to_line r a line = if nat_lt line_limit (length line) then Err Long else r.step a line

-- a command in `state` accepts `lines` in order, gives them these `answers`, and is then in the state `after`
abbrev pub Runs : {State : Type 0} (rules : Rules State) (state : State) (lines answers : List (List ℕ)) (after : State) → Type 0
Runs r a [] [] b = b ≡ a
Runs {State} r a (line ∷ lines) (answer ∷ answers) b = (mid : State) × (answer_to_line r a line ≡ Ok (answer, mid))
    × Runs r mid lines answers b
Runs r a [] (answer ∷ answers) b = ⊥
Runs r a (line ∷ lines) [] b = ⊥

-- the concatenation of a list of texts, in order
abbrev pub concatenated_text : (texts : List (List ℕ)) → List ℕ
concatenated_text [] = []
concatenated_text (text ∷ texts) = text ++ concatenated_text texts

-- a command answers a line as its rules prescribe: it writes the answer `text` and goes to the next state, or returns the fault, writes
-- nothing and stays in `state`
abbrev pub IsLineAnswerOrFault : {State : Type 0} (rules : Rules State) (state : State) (line : List ℕ) (result : Result Unit LineFault)
    (text : List ℕ) (Represents : (State → Type 0)) → Type 0
IsLineAnswerOrFault {State} r a line result text Represents = MatchResult result
    (λ _. (b : State) × (r.step a line ≡ Ok (text, b)) × Represents b)
    (λ fault. (r.step a line ≡ Err fault) × (text ≡ []) × Represents a)
