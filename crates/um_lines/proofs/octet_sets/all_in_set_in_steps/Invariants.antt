use Rattle.std.{proofs.Common.{◌≡◌, ◌+◌, ◌-◌, ◌≤◌, length, take}, specs.List.list_all}
use Rattle.um_lines.proofs.octet_sets.all_in_set_in_steps.Given as goal

-- `all` tells whether the set contains all octets read so far
abbrev pub invariant-loop-at : goal.invariant-loop-at
invariant-loop-at g l =
    (l.all ≡ list_all g.S.OctetSet.has (take l.at l.word)) × (l.at ≤ length l.word) × (l.last + g.row.N ≡ length l.word)

abbrev pub decreases-loop-at : goal.decreases-loop-at
decreases-loop-at g l = l.last - l.at
