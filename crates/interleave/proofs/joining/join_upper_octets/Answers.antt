use Rattle.interleave.proofs.JoinedLanes.{length-joined_octets, join_upper_octets-lane}
use Rattle.interleave.proofs.joining.join_upper_octets.Goals as goal

pub returns-clause-count : goal.returns-clause-count
returns-clause-count c = length-joined_octets _ _ c.requires.x c.requires.y _ _ 8 65280

pub returns-clause-each : goal.returns-clause-each
returns-clause-each c = join_upper_octets-lane _ _ c.requires.x c.requires.y c.fits-x.1 c.fits-y.1
