use Rattle.um_end.proofs.EndSteps.{run_by_steps}
use Rattle.um_end.proofs.two_ends.law_end_command_lines_are_terminal_steps.Goals as goal

pub returns : goal.returns
returns c = λ role tsc lines texts after known runs. run_by_steps role tsc lines texts after known runs
