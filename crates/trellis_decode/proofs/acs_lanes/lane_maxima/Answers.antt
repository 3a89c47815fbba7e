use Rattle.{std.proofs.Common.w16, lanes.proofs.Lanes.maxima}
use Rattle.trellis_decode.proofs.acs_lanes.lane_maxima.Goals as goal

pub returns : goal.returns
returns c = maxima w16 8 _ _ c.requires.first c.requires.second
