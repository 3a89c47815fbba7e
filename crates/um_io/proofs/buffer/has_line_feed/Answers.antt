use Rattle.std.proofs.Common.{arith, ◌≡◌}
use Rattle.um_io.proofs.buffer.has_line_feed.Goals as goal

pub returns : goal.returns
returns c none = let end : c.loop-k.k ≡ 64 = omega arith in rw end at (c.loop-k.invariant none)
