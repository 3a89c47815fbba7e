use Rattle.half_bursts.proofs.Places.{same_place}
use Rattle.half_bursts.proofs.laws.law_coded_bits_share_no_position.Goals as goal

pub returns : goal.returns
returns c = same_place
