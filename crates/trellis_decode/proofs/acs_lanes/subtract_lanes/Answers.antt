use Rattle.{std.proofs.Common.w16, lanes.proofs.Lanes.differences}
use Rattle.trellis_decode.proofs.acs_lanes.subtract_lanes.Goals as goal

pub returns : goal.returns
returns c = differences w16 8 _ _ c.requires.first c.requires.second c.requires.fits_16_bits
