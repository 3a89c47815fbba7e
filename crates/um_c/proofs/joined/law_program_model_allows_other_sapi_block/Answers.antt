use Rattle.um_c.proofs.Sessions.{program_step-other_sapi}
use Rattle.um_c.proofs.joined.law_program_model_allows_other_sapi_block.Goals as goal

pub returns : goal.returns
returns c = program_step-other_sapi
