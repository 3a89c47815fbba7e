use Rattle.um_c.proofs.Sessions.{program_step-block}
use Rattle.um_c.proofs.joined.law_program_model_allows_any_block.Goals as goal

pub returns : goal.returns
returns c = program_step-block
