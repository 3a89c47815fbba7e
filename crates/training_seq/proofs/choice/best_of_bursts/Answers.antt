use Rattle.{
  std.proofs.{Common.arith, lemmas.Int.ints},
  training_seq.{
    specs.Choice.total_correlation,
    proofs.Lemmas.{IsFirstMaximum-same, correlation-four},
  },
}
use Rattle.training_seq.proofs.choice.best_of_bursts.Goals as goal

pub returns-clause-tsc : goal.returns-clause-tsc
returns-clause-tsc c =
    let a = c.args.a.now in
    let b = c.args.b.now in
    let e = c.args.c.now in
    let d = c.args.d.now in
    IsFirstMaximum-same _ (total_correlation a b e d) 7 _
    (λ tsc h. correlation-four a b e d tsc (omega arith) (omega arith) (omega arith) h)
    (rw c.add_midambles.ensures.value at c.most_correlated_tsc-tsc.ensures)

pub most_correlated_tsc-tsc-requires : goal.most_correlated_tsc-tsc-requires
most_correlated_tsc-tsc-requires c = record {
  small = λ k d lt. let small = c.add_midambles.ensures.small k d lt in (omega (arith, ints, small), omega (arith, ints, small));
}
