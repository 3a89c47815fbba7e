use Rattle.{
  std.proofs.{Common.{rules, arith, ◌≡◌, ◌+◌, suc, ap, ◌∙◌, pos, w8, get_or, take}, lemmas.Int.{ints, to_z-of_z}},
  conv_code.specs.Likelihood.{bit_metric, likelihood},
  trellis_decode.proofs.Viterbi.likelihood-more,
}
use Rattle.trellis_decode.proofs.exhaustive.sum_of_bit_metrics.Goals as goal

pub loop-k-preserved : goal.loop-k-preserved
loop-k-preserved c =
    let soft = c.args.soft.now in
    let coded = c.args.coded.now in
    let k = c.loop-k.k in
    let one_more : k + 1 ≡ suc k = omega arith in
    let more = ap (λ n. likelihood (take n soft) (take n coded)) one_more ∙ likelihood-more _ _ k (omega arith) c.loop-k-test.true in
    let exact = c.bit_metric_of-sum.ensures.exact ∙ ap (λ p. bit_metric p (get_or coded k 0))
    (to_z-of_z w8 (get_or _ k (pos 0)) (search rules)) in
    record {
      value = omega (arith, ints);
      low = omega (arith, ints);
      high = omega (arith, ints);
    }
