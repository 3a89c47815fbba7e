use Rattle.interleave.proofs.JoinedLanes.{length-joined_octets, join_lower_octets-lane}
use Rattle.interleave.proofs.joining.join_lower_octets.Goals as goal

pub returns-clause-count : goal.returns-clause-count
returns-clause-count c = length-joined_octets _ _ c.requires.x c.requires.y _ _ 255 8

pub returns-clause-each : goal.returns-clause-each
returns-clause-each c = join_lower_octets-lane _ _ c.requires.x c.requires.y
