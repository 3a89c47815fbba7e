use Rattle.um_driver.proofs.Outputs.{response-continues}
use Rattle.um_driver.proofs.laws.law_more_octets_continue_response.Goals as goal

pub returns : goal.returns
returns g c = response-continues g.C.Command.rules
