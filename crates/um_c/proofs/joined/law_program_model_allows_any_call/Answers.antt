use Rattle.um_c.proofs.Sessions.{program_step-call}
use Rattle.um_c.proofs.joined.law_program_model_allows_any_call.Goals as goal

pub returns : goal.returns
returns c = program_step-call
