use Rattle.{std.proofs.{Common.arith, lemmas.Bool.Decides.nat_tests}, weight_bound.{specs.Distance.differ_at, proofs.Lemmas.count_by_more}}
use Rattle.weight_bound.proofs.counts.distance.Goals as goal

pub loop-k-preserved : goal.loop-k-preserved
loop-k-preserved c =
    let more = count_by_more (differ_at c.args.a.now c.args.b.now) c.loop-k.k in
    grind (arith, nat_tests, more)
