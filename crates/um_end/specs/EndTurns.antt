-- What a line that a process of `um end` answers does, as a step of two terminals of which the process is one (this project's own rule).
use Rattle.std.specs.Prelude.{ℕ, ℤ, ◌≡◌, ◌<◌, ◌⊎◌, List, [], ◌∷◌, ◌++◌, length}
use Rattle.um_link.specs.lapdm_link.Events.{side_with_role}
use Rattle.um_link.specs.um_air.Air.{Accepts}
use Rattle.um_end.specs.EndLines.{EndCommandLineMeaning, EndCommandLineMeans}
use Rattle.um_end.specs.EndLines as L
use Rattle.um_end.specs.EndRuns.{EndCommandState, IsAnswerText}
use Rattle.um_end.specs.TwoTerminals.{TwoTerminals, TerminalStep, IsTerminalStep}
use Rattle.um_end.specs.TwoTerminals as T

-- the step is the one that a line with this meaning makes in state `s`, and `text` is its answer: the call of the line, or the reception of
-- the bursts held and of the burst of the line
abbrev pub IsStepOfLine : (s : EndCommandState) (meaning : EndCommandLineMeaning) (turn : TerminalStep) (text : List ℕ) → Type 0
IsStepOfLine s (L.Calls event) (T.Calls side asked answer) text =
    (side ≡ s.role) × (asked ≡ event) × IsAnswerText s.tsc answer text
IsStepOfLine s (L.TakesBurst soft) (T.TakesBurst side bursts step) text =
    (side ≡ s.role) × (bursts ≡ s.held_bursts ++ soft ∷ []) × IsAnswerText s.tsc (Accepts step) text
IsStepOfLine s meaning turn text = ⊥

-- a line with this meaning, answered by `text`, is a step of any two terminals of which the side with the role of `s` has the endpoints of
-- `s`; after it this side has the endpoints of `after`
pub record IsTerminalStepOfLine (s : EndCommandState) (meaning : EndCommandLineMeaning) (text : List ℕ) (after : EndCommandState)
    (a : TwoTerminals) : Type 0
  where
    pub turn : TerminalStep
    pub next : TwoTerminals
    pub is_step : IsTerminalStep a turn next
    pub of_line : IsStepOfLine s meaning turn text
    pub new_links : side_with_role s.role next.sides ≡ after.links

-- the line is skipped, or has one of the first three bursts of a block; `held` are the bursts of the block held before it, and `after`
-- those held after it
abbrev pub BringsNoStep : (held : List (List ℤ)) (meaning : EndCommandLineMeaning) (after : List (List ℤ)) → Type 0
BringsNoStep held L.Nothing after = after ≡ held
BringsNoStep held (L.TakesBurst soft) after = (length held < 3) × (after ≡ held ++ soft ∷ [])
BringsNoStep held (L.Calls event) after = ⊥

-- the line is a call, which leaves the bursts held, or has the fourth burst of a block, after which none are held
abbrev pub BringsStep : (held : List (List ℤ)) (meaning : EndCommandLineMeaning) (after : List (List ℤ)) → Type 0
BringsStep held L.Nothing after = ⊥
BringsStep held (L.TakesBurst soft) after = (length held ≡ 3) × (after ≡ [])
BringsStep held (L.Calls event) after = after ≡ held

-- a line that brings no step leaves the endpoints as they are and gets no answer; any other is a step of two terminals
abbrev pub AnswersByStep : (s : EndCommandState) (meaning : EndCommandLineMeaning) (text : List ℕ) (after : EndCommandState) → Type 0
AnswersByStep s meaning text after =
    (BringsNoStep s.held_bursts meaning after.held_bursts × (after.links ≡ s.links) × (text ≡ []))
    ⊎ (BringsStep s.held_bursts meaning after.held_bursts
    × ((a : TwoTerminals) → side_with_role s.role a.sides ≡ s.links → IsTerminalStepOfLine s meaning text after a))

-- the line has a meaning and is answered so; the process stays on its side, and keeps its training sequence
pub record AnswersLineByStep (s : EndCommandState) (line text : List ℕ) (after : EndCommandState) : Type 0 where
  pub meaning : EndCommandLineMeaning
  pub means : EndCommandLineMeans s.role (length s.held_bursts) line meaning
  pub same_role : after.role ≡ s.role
  pub same_tsc : after.tsc ≡ s.tsc
  pub by_step : AnswersByStep s meaning text after

-- the lines get these answers, each by a step of two terminals or without a change of the endpoints
abbrev pub AnswersLinesBySteps : (s : EndCommandState) (lines texts : List (List ℕ)) (after : EndCommandState) → Type 0
AnswersLinesBySteps s [] [] after = after ≡ s
AnswersLinesBySteps s (line ∷ lines) (text ∷ texts) after =
    (next : EndCommandState) × AnswersLineByStep s line text next × AnswersLinesBySteps next lines texts after
AnswersLinesBySteps s lines texts after = ⊥
