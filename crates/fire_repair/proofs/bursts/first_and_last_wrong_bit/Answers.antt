use Rattle.fire_repair.proofs.BurstBits.{edges_of}
use Rattle.fire_repair.proofs.bursts.first_and_last_wrong_bit.Goals as goal

pub returns : goal.returns
returns c = assumption (edges_of c.args.shape c.requires.nonzero c.requires.twelve)
