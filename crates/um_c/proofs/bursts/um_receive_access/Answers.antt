use Rattle.{std.proofs.Common.rules, um_c.proofs.Calls.IsAccessReport-unique}
use Rattle.um_c.proofs.bursts.um_receive_access.Goals as goal

pub returns-clause-received : goal.returns-clause-received
returns-clause-received c = search rules

pub returns-clause-only : goal.returns-clause-only
returns-clause-only c = λ yes other h. IsAccessReport-unique c.args.burst.now c.args.bsic.now other _ h (returns-clause-received c yes)
