use Rattle.tdma.proofs.Blocks.{first_of_block}
use Rattle.tdma.proofs.laws.law_first_frame_begins_block.Goals as goal

pub returns : goal.returns
returns c = λ combination d timeslot frame place slot found. first_of_block combination d timeslot frame place slot found
