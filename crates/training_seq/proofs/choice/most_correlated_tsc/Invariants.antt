use Rattle.{
  std.proofs.Common.◌≡◌,
  bit_blocks.specs.SoftValues.likelihood,
  training_seq.{specs.Sequences.midamble, proofs.Lemmas.LeadsBelow},
}
use Rattle.training_seq.proofs.choice.most_correlated_tsc.Given as goal

abbrev pub invariant-loop-tsc : goal.invariant-loop-tsc
invariant-loop-tsc l =
    (l.greatest ≡ likelihood l.sums (midamble l.best))
    × LeadsBelow (λ tsc. likelihood l.sums (midamble tsc)) l.tsc l.best
