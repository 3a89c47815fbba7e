use Rattle.tdma.proofs.Blocks.{placed}
use Rattle.tdma.proofs.laws.law_four_bursts_are_of_one_block.Goals as goal

pub returns : goal.returns
returns c = λ combination d timeslot n b row slot among lt. placed combination d timeslot n b row slot among lt
