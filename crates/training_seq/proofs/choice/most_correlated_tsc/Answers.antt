use Rattle.{
  std.proofs.{Common.{◌≡◌, ℕ, ℤ, ◌<ℤ◌, ◌≤ℤ◌, arith}, lemmas.Int.ints},
  bit_blocks.specs.SoftValues.likelihood,
  training_seq.{specs.Sequences.midamble, proofs.Lemmas.{LeadsBelow-overtaken, LeadsBelow-kept, IsFirstMaximum-from_LeadsBelow}},
  training_seq.proofs.choice.most_correlated_tsc.Goals.{then-total-greatest, else-total-greatest},
}
use Rattle.training_seq.proofs.choice.most_correlated_tsc.Goals as goal

pub loop-tsc-preserved : goal.loop-tsc-preserved
loop-tsc-preserved c =
    let score : ℕ → ℤ = λ tsc. likelihood c.args.sums.now (midamble tsc) in
    let here = c.correlate_sums-totals.ensures.value c.loop-tsc.tsc (omega arith) in
    let small = c.correlate_sums-totals.ensures.within c.loop-tsc.tsc (omega arith) in
    elim c.if-total-greatest.branch [
      | then-total-greatest w ↦
          let more : score c.loop-tsc.best <ℤ score c.loop-tsc.tsc = grind (arith, ints, here, small) in
          rw w.best-is (omega (arith, ints, here, small), LeadsBelow-overtaken score _ _ c.loop-tsc.invariant.1 more)
      | else-total-greatest w ↦
          let less : score c.loop-tsc.tsc ≤ℤ score c.loop-tsc.best = grind (arith, ints, here, small) in
          rw w.best-is (omega (arith, ints), LeadsBelow-kept score _ _ c.loop-tsc.invariant.1 less)
    ]

pub returns : goal.returns
returns c =
    let score : ℕ → ℤ = λ tsc. likelihood c.args.sums.now (midamble tsc) in
    let end : c.loop-tsc.tsc ≡ 8 = omega arith in
    IsFirstMaximum-from_LeadsBelow score _ (rw end at c.loop-tsc.invariant.1)
