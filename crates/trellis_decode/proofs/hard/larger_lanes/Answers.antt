use Rattle.{std.proofs.Common.w8, lanes.proofs.Lanes.maxima}
use Rattle.trellis_decode.proofs.hard.larger_lanes.Goals as goal

pub returns : goal.returns
returns c = maxima w8 16 _ _ c.requires.zero c.requires.one
