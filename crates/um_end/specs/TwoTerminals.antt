-- Two processes of `um end`, a mobile and a network, that receive each other's bursts (this project's own rule).
use Rattle.std.specs.Prelude.{◌≡◌, ℤ, List, [], ◌∷◌, ◌++◌}
use Rattle.um_link.specs.lapdm_frame.declared.Channel.TheVariants.{Sdcch}
use Rattle.um_link.specs.lapdm_window.Ends.{Role}
use Rattle.um_link.specs.lapdm_link.Queues.{Queues, empty_queues, queue_of, with_items_appended, without_oldest_item}
use Rattle.um_link.specs.lapdm_link.Events.{BothSides, idle_endpoints, side_with_role, with_side_replaced, other}
use Rattle.um_link.specs.lapdm_link.Claims.{LogLine, answer_log_lines, notice_log_lines}
use Rattle.um_link.specs.lapdm_link.Carriers.{IsRun, FirstSatisfies, log_of_turns}
use Rattle.um_link.specs.um_air.Air.{Octets, Event, Answer, Step}
use Rattle.um_link.specs.um_air.Damage.{AreCorrectableBursts}
use Rattle.um_link.specs.um_air.Sessions.{answer_without_blocks}
use Rattle.um_end.specs.Terminals.{SideState, IsCallOfRole, answer_to_call, ReceivesBursts}
use Rattle.um_end.specs.EndRuns.{frames_in_answer}

-- the state of both sides, and the octets of the blocks in transit from each, in order
pub record TwoTerminals : Type 0 where
  pub sides : BothSides
  pub queues : Queues Octets

-- the initial state: idle endpoints, and no blocks in transit
abbrev pub idle_terminals : TwoTerminals
idle_terminals = record { sides = idle_endpoints Sdcch; queues = empty_queues }

-- one step of the two processes: a side is called and returns this answer; four bursts reach a side, with this result; or the oldest block
-- from a side is lost
pub data TerminalStep : Type 0 where
  Calls : (side : Role) (event : Event) (answer : Answer) → TerminalStep
  TakesBurst : (side : Role) (bursts : List (List ℤ)) (step : Step) → TerminalStep
  Loses : (sender : Role) → TerminalStep

-- the state after a side has changed to a new state and its blocks have been added to the blocks in transit
abbrev pub state_after_step : (side : Role) (links : SideState) (sent : List Octets) (remaining : Queues Octets)
    (terminals : TwoTerminals) → TwoTerminals
state_after_step side links sent left a =
    record { sides = with_side_replaced side links a.sides; queues = with_items_appended side sent left }

-- `step` leads from the state `terminals` to the state `after`
abbrev pub IsTerminalStep : (terminals : TwoTerminals) (step : TerminalStep) (after : TwoTerminals) → Type 0
IsTerminalStep a (Calls side event answer) b =
    let next = answer_to_call side (side_with_role side a.sides) event in
    IsCallOfRole side event × (answer ≡ next.1) × (b ≡ state_after_step side next.0 (frames_in_answer answer) a.queues a)
IsTerminalStep a (TakesBurst side bursts step) b = (links : SideState)
    × ReceivesBursts side (side_with_role side a.sides) bursts links step
    × (b ≡ state_after_step side links step.frames (without_oldest_item (other side) a.queues) a)
IsTerminalStep a (Loses sender) b = b ≡ record a { queues = without_oldest_item sender a.queues }

-- the steps can follow one another from this state, and each satisfies the condition `MayTake`
abbrev pub AreStepsFrom : (MayTake : (TwoTerminals → TerminalStep → Type 0)) (terminals : TwoTerminals) (turns : List TerminalStep)
    → Type 0
AreStepsFrom May a turns = (after : TwoTerminals) × IsRun IsTerminalStep May a turns after

-- the bursts carry the first block in the list, with at most light damage
abbrev pub AreBurstsOfFirstBlock : (bursts : List (List ℤ)) (blocks : List Octets) → Type 0
AreBurstsOfFirstBlock bursts blocks = FirstSatisfies (λ first. AreCorrectableBursts first bursts) blocks

-- bursts that reach a side carry the oldest block in transit to it, with at most light damage
abbrev pub DeliversOldestBlock : (terminals : TwoTerminals) (turn : TerminalStep) → Type 0
DeliversOldestBlock a (TakesBurst side bursts step) = AreBurstsOfFirstBlock bursts (queue_of (other side) a.queues)
DeliversOldestBlock a turn = Unit {0}

-- any step is allowed: a side may receive any bursts
abbrev pub AnyStepAllowed : (terminals : TwoTerminals) (turn : TerminalStep) → Type 0
AnyStepAllowed a turn = Unit {0}

-- the log lines of a step: its call, if any, and the notices reported
abbrev pub step_log_lines : TerminalStep → List LogLine
step_log_lines (Calls side event answer) = answer_log_lines event (answer_without_blocks answer)
step_log_lines (TakesBurst side bursts step) = notice_log_lines step.who step.sapi step.notices
step_log_lines (Loses sender) = []

-- the log of these steps: the log lines of all steps, in order
abbrev pub session_log : (turns : List TerminalStep) → List LogLine
session_log turns = log_of_turns step_log_lines turns
