use Rattle.half_bursts.proofs.Again.{joins_again}
use Rattle.half_bursts.proofs.laws.law_stolen_blocks_join_again.Goals as goal

pub returns : goal.returns
returns c = joins_again
