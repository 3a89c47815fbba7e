use Rattle.{std.proofs.Common.arith, training_seq.proofs.Lemmas.{length-with_product, total_with_product}}
use Rattle.training_seq.proofs.correlation.CorrelationTotals.add_product.Goals as goal

pub returns-clause-count : goal.returns-clause-count
returns-clause-count c = length-with_product c.args.self.lanes c.args.value c.args.signs.now c.requires.count c.told-signs

pub returns-clause-each : goal.returns-clause-each
returns-clause-each c tsc h =
    total_with_product c.args.self.lanes c.args.value c.args.signs.now c.requires.count c.told-signs tsc (omega arith)
    (c.requires.totals tsc h) c.requires.value (c.requires.signs tsc h)
