use Rattle.tdma.proofs.Blocks.{alone_anywhere}
use Rattle.tdma.proofs.laws.law_blocks_share_no_frame.Goals as goal

pub returns : goal.returns
returns c = λ combination d timeslot frame row within among carried. alone_anywhere combination d timeslot frame row within among carried
