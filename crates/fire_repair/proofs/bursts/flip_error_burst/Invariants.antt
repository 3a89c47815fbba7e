use Rattle.fire_repair.proofs.RepairResults.{IsFlipped}
use Rattle.fire_repair.proofs.bursts.flip_error_burst.Given as goal

abbrev pub invariant-loop-i : goal.invariant-loop-i
invariant-loop-i l = IsFlipped l.w l.word l.found.start l.found.shape l.i
