use Rattle.{std.proofs.Common.{◌≤◌, ◌-◌, length, take}, um_io.specs.Lines.IsLine}
use Rattle.um_io.proofs.buffer.search_line_feed.Given as goal

abbrev pub invariant-loop-from : goal.invariant-loop-from
invariant-loop-from l = (l.from ≤ length l.octets) × IsLine (take l.from l.octets)

abbrev pub decreases-loop-from : goal.decreases-loop-from
decreases-loop-from l = length l.octets - l.from
