use Rattle.{
  std.proofs.{Common.{arith, rules, ◌≡◌, ◌*◌, ◌^◌, ◌<◌, length, ap, ◌∙◌, w32}, lemmas.Int.to_z-of_z},
  conv_code.{specs.{Code.encoding, Likelihood.likelihood}, proofs.Lemmas.IsMostLikely-only},
  trellis_decode.proofs.{
    Viterbi.{less_by_test, most_by_test, RanksBehind-new, RanksBehind-old, IsMostLikely-chosen},
    exhaustive.search.Goals.{then-value-best, else-value-best},
  },
}
use Rattle.trellis_decode.proofs.exhaustive.search.Goals as goal

pub loop-number-preserved : goal.loop-number-preserved
loop-number-preserved c =
    let soft = c.args.soft.now in
    let n = length c.loop-number.u in
    let chosen = c.loop-number.chosen in
    let number = c.loop-number.number in
    let kept = c.loop-number.invariant in
    let same_length : n ≡ length c.write_bits_and_zero_tail-in-loop-number.new.u = omega arith in
    let within : 16 * number < 2 ^ n = omega (
      arith,
      ap (λ n. 2 ^ n) c.loop-number.auto.u,
      ap (λ n. 2 ^ n) c.write_bits_and_zero_tail.auto.u,
    ) in
    let value = to_z-of_z w32 c.path_metric-value.result (search rules) ∙ c.path_metric-value.ensures
    ∙ ap (λ u. likelihood soft (encoding u)) c.write_bits_and_zero_tail-in-loop-number.ensures.list in
    elim c.if-value-best.branch [
      | then-value-best w ↦ record {
        before = omega (arith, w.chosen-is);
        value = rw (← same_length, w.chosen-is) (w.best-is ∙ value);
        others = rw (← same_length, w.chosen-is) (RanksBehind-new _ n _ _ kept.before within kept.others
            (less_by_test _ _ _ _ kept.value value w.if-value-best.true));
      }
      | else-value-best w ↦ record {
        before = omega (arith, w.chosen-is);
        value = rw (← same_length, w.chosen-is) (w.best-is ∙ kept.value);
        others = rw (← same_length, w.chosen-is) (RanksBehind-old _ n _ _ kept.before within kept.others
            (most_by_test _ _ _ _ kept.value value w.if-value-best.false));
      }
    ]

pub returns-clause-best : goal.returns-clause-best
returns-clause-best c =
    let soft = c.args.soft.now in
    let n = length c.loop-number.u in
    let all : 16 * c.count_encoder_inputs-lists.result ≡ 2 ^ n = c.count_encoder_inputs-lists.ensures
    ∙ ap (λ n. 2 ^ n) (omega arith) in
    rw c.write_bits_and_zero_tail-2.ensures.list
    (IsMostLikely-chosen _ n c.loop-number.chosen c.count_encoder_inputs-lists.result (omega arith) (omega arith) all
    (λ m lt ne. let earlier : m < c.loop-number.number = omega arith in c.loop-number.invariant.others m earlier ne))

pub returns-clause-only : goal.returns-clause-only
returns-clause-only c v h = IsMostLikely-only _ _ v (returns-clause-best c) h
