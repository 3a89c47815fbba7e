-- The abstraction relation of the `end` command.
use Rattle.std.specs.Prelude.{◌≡◌}
use Rattle.um_end.specs.declared.command.EndCommand.{EndCommand}
use Rattle.um_end.specs.Abstraction.{role_of_terminal, Represents}
use Rattle.um_end.specs.EndRuns.{EndCommandState, initial_end_command_state}

-- the command `command` represents the run `state`: side, training sequence code, endpoints and held bursts agree
pub record CommandRepresents (command : EndCommand) (state : EndCommandState) : Type 0 where
  pub role : state.role ≡ role_of_terminal command.terminal
  pub tsc : state.tsc ≡ command.terminal.tsc
  pub links : Represents command.terminal state.links
  pub held_bursts : state.held_bursts ≡ command.held.held

-- the abstract state of this command at the start of a run
abbrev pub start_state_of_end_command : EndCommand → EndCommandState
start_state_of_end_command c = initial_end_command_state (role_of_terminal c.terminal) c.terminal.tsc
