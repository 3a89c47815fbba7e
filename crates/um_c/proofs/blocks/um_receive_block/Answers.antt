use Rattle.{std.proofs.Common.rules, um_c.proofs.Calls.IsBlockReport-unique}
use Rattle.um_c.proofs.blocks.um_receive_block.Goals as goal

pub returns-clause-received : goal.returns-clause-received
returns-clause-received c = search rules

pub returns-clause-only : goal.returns-clause-only
returns-clause-only c = λ yes other h. IsBlockReport-unique c.args.bursts.now other _ h (returns-clause-received c yes)
