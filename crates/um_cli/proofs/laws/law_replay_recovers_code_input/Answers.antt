use Rattle.um_cli.proofs.Restoring.{recovers_code_input}
use Rattle.um_cli.proofs.laws.law_replay_recovers_code_input.Goals as goal

pub returns : goal.returns
returns c = recovers_code_input
