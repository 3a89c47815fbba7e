use Rattle.{std.proofs.Common.rules, um_c.proofs.Calls.IsMarginReport-unique}
use Rattle.um_c.proofs.margins.um_margin_block.Goals as goal

pub returns-clause-compared : goal.returns-clause-compared
returns-clause-compared c = search rules

pub returns-clause-only : goal.returns-clause-only
returns-clause-only c = λ yes other h. IsMarginReport-unique c.args.bursts.now other _ h (returns-clause-compared c yes)
