use Rattle.fire_repair.proofs.RepairResults.{IsSearched}
use Rattle.fire_repair.proofs.bursts.find_error_burst.Given as goal

abbrev pub invariant-loop-start : goal.invariant-loop-start
invariant-loop-start l = IsSearched l.syndrome l.start l.register
