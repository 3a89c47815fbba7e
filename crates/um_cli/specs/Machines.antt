-- What a run of the command that the command-line words name has read, written and counted (this project's own rule).
use Rattle.std.specs.Prelude.{ℕ, ◌≡◌, ◌⊎◌, List, [], Option}
use Rattle.um_driver.specs.Rules.{Rules, Machine}
use Rattle.um_driver.specs.Table.{IsRun, EndsAsPrescribed}
use Rattle.um_driver.specs.declared.status.Status.{Status}
use Rattle.um_driver.specs.declared.status.Status.TheVariants.{BadWords, NoMemory}
use Rattle.um_code.specs.Code.{code_command_rules}
use Rattle.um_replay.specs.Replay.{replay_rules}
use Rattle.um_show.specs.Show.{show_command_rules}
use Rattle.um_margin.specs.Margins.{margin_command_rules}
use Rattle.um_repair.specs.RepairRules.{repair_command_rules}
use Rattle.um_link_command.specs.Courses.{RadioCounters}
use Rattle.um_link_command.specs.Promises.{IsLinkCommandRun}
use Rattle.um_link_command.specs.Sessions.{new_session, link_command_rules}
use Rattle.um_end.specs.um_link.Naming.{spec_role_of}
use Rattle.um_end.specs.EndRuns.{initial_end_command_state, end_command_rules}
use Rattle.um_cli.specs.declared.words.Invocation.{Invocation}
use Rattle.um_cli.specs.declared.words.Invocation.TheVariants.{Code, Replay, Show, Margin, Repair, Link, Make, End}
use Rattle.um_cli.specs.Make.{IsMakeCommandRun}
use Rattle.um_cli.specs.Shapes.{ReadsNothing, UsesNoRadio}

abbrev pub machine : {State : Type 0} → Rules State → State → Machine
machine {State} rules start = record { State = State; rules = rules; start = start }

-- a command that reads lines is a state machine; `make` reads none
pub data CommandKind : Type 1 where
  ReadsLines : Machine → CommandKind
  ReadsNoLines : CommandKind

-- the rules of a command and its first state
abbrev pub machine_of : Invocation → CommandKind
machine_of Code = ReadsLines (machine code_command_rules tt)
machine_of Replay = ReadsLines (machine replay_rules [])
machine_of Show = ReadsLines (machine show_command_rules tt)
machine_of Margin = ReadsLines (machine margin_command_rules [])
machine_of Repair = ReadsLines (machine repair_command_rules tt)
machine_of (Link tsc channel) = ReadsLines (machine link_command_rules (new_session tsc channel))
machine_of (End side tsc) = ReadsLines (machine end_command_rules (initial_end_command_state (spec_role_of side) tsc))
machine_of (Make n tsc) = ReadsNoLines

abbrev pub IfReadsLines : (kind : CommandKind) (Holds : (Machine → Type 0)) → Type 0
IfReadsLines (ReadsLines m) Holds = Holds m
IfReadsLines ReadsNoLines Holds = Unit {0}

-- what was written is the response that the rules of the command prescribe for what was read, or a prefix of it; `link` and `make` use the
-- radio for all blocks of the session
abbrev pub IsRunOfCommand : (command : Invocation) (status : Status)
    (unread_before unread_after written_before written_after : Option (List ℕ)) (counters_before counters_after : RadioCounters) →
    Type 0
IsRunOfCommand (Make n tsc) status left left' taken taken' before after = IsMakeCommandRun n tsc status taken taken' before after
IsRunOfCommand (Link tsc channel) status left left' taken taken' before after =
    IsLinkCommandRun tsc channel status left left' taken taken' before after
IsRunOfCommand command status left left' taken taken' before after =
    IfReadsLines (machine_of command) (λ m. IsRun m.rules m.start (λ _. Unit {0}) status left left' taken taken')

-- the run ends and writes as the rules of the command prescribe for the whole input, unless the source, the sink or an allocation fails
abbrev pub CommandEndsAsPrescribed : (command : Invocation) (status : Status) (unread written_before written_after : Option (List ℕ)) →
    Type 0
CommandEndsAsPrescribed command status left taken taken' =
    IfReadsLines (machine_of command) (λ m. EndsAsPrescribed m.rules m.start status left taken taken')

-- what a run leaves as it was: everything if the words name no command or an allocation fails, and whatever the command does not use
abbrev pub LeavesUnused : (command : Option Invocation) (status : Status) (SameInput SameOutput SameRadio : Type 0) → Type 0
LeavesUnused command status SameInput SameOutput SameRadio =
    ((status ≡ BadWords) ⊎ (status ≡ NoMemory) → SameInput × SameOutput × SameRadio) × (ReadsNothing command → SameInput)
    × (UsesNoRadio command → SameRadio)
