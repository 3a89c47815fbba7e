use Rattle.trellis_decode.proofs.AcsVectors.{absolute_values, AbsFit16Bits-absolute_values}
use Rattle.trellis_decode.proofs.acs_lanes.absolute_values.Goals as goal

pub returns-clause-each : goal.returns-clause-each
returns-clause-each c = (absolute_values _ c.requires).each

pub returns-clause-lanes : goal.returns-clause-lanes
returns-clause-lanes c = AbsFit16Bits-absolute_values _ c.requires
