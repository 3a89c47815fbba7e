use Rattle.um_block.proofs.WrongBits.{few_wrong}
use Rattle.um_block.proofs.laws.law_coded_errors_at_most_burst_errors.Goals as goal

pub returns : goal.returns
returns c = few_wrong
