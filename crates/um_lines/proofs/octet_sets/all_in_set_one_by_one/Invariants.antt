use Rattle.std.{proofs.Common.{◌≡◌, take}, specs.List.list_all}
use Rattle.um_lines.proofs.octet_sets.all_in_set_one_by_one.Given as goal

-- `all` tells whether the set contains all octets read so far
abbrev pub invariant-loop-octet : goal.invariant-loop-octet
invariant-loop-octet g l = l.all ≡ list_all g.S.OctetSet.has (take l.octet-index l.word)
