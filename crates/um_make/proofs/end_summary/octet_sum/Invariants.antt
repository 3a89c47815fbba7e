use Rattle.std.proofs.Common.{◌≡◌, ◌≤◌, ◌*◌, take, sum}
use Rattle.um_make.proofs.end_summary.octet_sum.Given as goal

abbrev pub invariant-loop-octet : goal.invariant-loop-octet
invariant-loop-octet l = record { value : l.total ≡ sum (take l.octet-index l.octets); most : l.total ≤ 255 * l.octet-index }
