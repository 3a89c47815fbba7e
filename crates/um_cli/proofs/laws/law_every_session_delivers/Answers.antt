use Rattle.um_cli.proofs.Lemmas.{every_session_delivers}
use Rattle.um_cli.proofs.laws.law_every_session_delivers.Goals as goal

pub returns : goal.returns
returns c = every_session_delivers
