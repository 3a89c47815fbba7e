use Rattle.fire_repair.proofs.RepairResults.{one_repair}
use Rattle.fire_repair.proofs.laws.law_error_burst_repair_is_unique.Goals as goal

pub returns : goal.returns
returns c = one_repair
