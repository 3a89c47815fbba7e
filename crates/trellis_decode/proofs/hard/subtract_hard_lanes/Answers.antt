use Rattle.{std.proofs.Common.w8, lanes.proofs.Lanes.differences}
use Rattle.trellis_decode.proofs.hard.subtract_hard_lanes.Goals as goal

pub returns : goal.returns
returns c = differences w8 16 _ _ c.requires.first c.requires.second c.requires.fits
