-- Sessions over any carrier: a radio path, a C program, or two terminals. A turn changes the state of the carrier, which is that of its
-- ends and of what is in transit between them (this project's own rule).
use Rattle.std.specs.Prelude.{◌≡◌, List, [], ◌∷◌}
use Rattle.std.specs.List.{flat_map}
use Rattle.lapdm_link.specs.Claims.{LogLine}

-- the turns lead from `before` to `after`, and each satisfies the condition `MayTake`
abbrev pub IsRun : {State Turn : Type 0} (Step : (State → Turn → State → Type 0)) (MayTake : (State → Turn → Type 0))
    (before : State) (turns : List Turn) (after : State) → Type 0
IsRun Step May a [] z = z ≡ a
IsRun {State} {Turn} Step May a (turn ∷ turns) z = May a turn × (b : State) × Step a turn b × IsRun Step May b turns z

-- the list is not empty, and its first element satisfies the condition
abbrev pub FirstSatisfies : {T : Type 0} (Property : (T → Type 0)) (items : List T) → Type 0
FirstSatisfies Like [] = ⊥
FirstSatisfies Like (first ∷ others) = Like first

-- the log of these turns: the log lines of each, in order
abbrev pub log_of_turns : {Turn : Type 0} (log_lines : (Turn → List LogLine)) (turns : List Turn) → List LogLine
log_of_turns lines turns = flat_map lines turns
