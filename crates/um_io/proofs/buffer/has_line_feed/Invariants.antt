use Rattle.{std.proofs.Common.{◌≡◌, false, take}, um_io.specs.Lines.IsLine}
use Rattle.um_io.proofs.buffer.has_line_feed.Given as goal

-- if no line feed has been found, the octets tested so far contain none
abbrev pub invariant-loop-k : goal.invariant-loop-k
invariant-loop-k l = l.found ≡ false → IsLine (take l.k l.octets)
