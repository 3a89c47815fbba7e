use Rattle.{
  std.proofs.{Common.{◌+ℤ◌, ◌≡◌, ◌∙◌, ◌≤◌, ap, arith, length, ℕ}, lemmas.Int.ints},
  training_seq.{
    specs.{Choice.total_correlation, Sequences.midamble, Sums.vector_sum},
    proofs.Lemmas.{AllBits-midamble, IsFirstMaximum-same, correlation-four, correlation-vector_sum},
  },
  bit_blocks.specs.SoftValues.likelihood,
}
use Rattle.training_seq.proofs.choice.best_of_eight.Goals as goal

pub returns-clause-tsc : goal.returns-clause-tsc
returns-clause-tsc c =
    let first = c.add_midambles.result in
    let later = c.add_midambles-2.result in
    let same : length first ≡ length later = omega arith in
    let one : (tsc : ℕ) → tsc ≤ 7 →
    likelihood first (midamble tsc) ≡ total_correlation c.args.a.now c.args.b.now c.args.c.now c.args.d.now tsc =
    λ tsc h. ap (λ sums. likelihood sums (midamble tsc)) c.add_midambles.ensures.value
    ∙ correlation-four c.args.a.now c.args.b.now c.args.c.now c.args.d.now tsc (omega arith) (omega arith) (omega arith) h in
    let two : (tsc : ℕ) → tsc ≤ 7 →
    likelihood later (midamble tsc) ≡ total_correlation c.args.e.now c.args.f.now c.args.g.now c.args.h.now tsc =
    λ tsc h. ap (λ sums. likelihood sums (midamble tsc)) c.add_midambles-2.ensures.value
    ∙ correlation-four c.args.e.now c.args.f.now c.args.g.now c.args.h.now tsc (omega arith) (omega arith) (omega arith) h in
    IsFirstMaximum-same _
    (λ tsc. total_correlation c.args.a.now c.args.b.now c.args.c.now c.args.d.now tsc
    +ℤ total_correlation c.args.e.now c.args.f.now c.args.g.now c.args.h.now tsc) 7 _
    (λ tsc h. ap (λ sums. likelihood sums (midamble tsc)) c.add_sums.ensures.value
    ∙ correlation-vector_sum first later (midamble tsc) same (AllBits-midamble tsc h)
    ∙ omega (arith, ints, one tsc h, two tsc h))
    c.most_correlated_tsc-tsc.ensures
