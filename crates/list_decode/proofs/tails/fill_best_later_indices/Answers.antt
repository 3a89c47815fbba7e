use Rattle.{
  std.proofs.{
    Common.{arith, rules, ◌≡◌, ◌+◌, ◌-◌, ◌<◌, ◌≤◌, ℕ, Some, List, ℤ, inl, inr, get_or, length, set, sym, subst},
    lemmas.{Grind.get_or-set_at, List.get_or-set_other},
  },
  weight_bound.proofs.conv_code.Lemmas.same_number,
  trellis_decode.specs.Trellis.traceback,
  list_decode.specs.{DeviatingWords.{is_in_range, IsLeastLossFreePosition}, LeastLosses.{IsPossibleDeviation, IsLeastLossDeviationOrNone}},
  list_decode.{specs.declared.deviation.PossibleDeviation.PossibleDeviation, proofs.Spans.alone},
}
use Rattle.list_decode.proofs.tails.fill_best_later_indices.Goals as goal

least_loss-one : (u : List ℕ) (losses : List (List ℤ)) (k n : ℕ) (x : PossibleDeviation) → k + 1 ≡ n → x.index ≡ k →
    IsPossibleDeviation u losses x → IsLeastLossDeviationOrNone u losses (is_in_range k n) n (Some x)
least_loss-one u losses k n x end index possible = (
  possible,
  subst (IsLeastLossFreePosition u losses (is_in_range k n) n) (sym index)
      (subst (λ n. IsLeastLossFreePosition u losses (is_in_range k n) n k) end (alone u losses k)),
)

-- after the best position from k on is written at index k, the entry at index j ≥ k is the best position from j on
one_more : (u : List ℕ) (losses : List (List ℤ)) (indices : List ℕ) (k n index j : ℕ) → k < length indices →
    IsLeastLossFreePosition u losses (is_in_range k n) n index →
    (k + 1 ≤ j → IsLeastLossFreePosition u losses (is_in_range j n) n (get_or indices j 0)) → k ≤ j →
    IsLeastLossFreePosition u losses (is_in_range j n) n (get_or (set indices k index) j 0)
one_more u losses indices k n index j within best later low = elim (same_number j k) [
  | inl here ↦ subst (IsLeastLossFreePosition u losses (is_in_range j n) n) (sym (get_or-set_at indices k j index 0 here within))
      (subst (λ j. IsLeastLossFreePosition u losses (is_in_range j n) n index) (sym here) best)
  | inr other ↦ subst (IsLeastLossFreePosition u losses (is_in_range j n) n) (sym (get_or-set_other indices k j index 0 other))
      (later (omega arith))
]

pub loop-k-init : goal.loop-k-init
loop-k-init c =
    let rows = c.args.rows.now in
    let u = traceback rows 0 in
    let losses = c.args.losses.now in
    let five = c.requires.at_least in
    let here = c.survivor_deviation-best.ensures in
    let first = c.survivor_deviation-best.result in
    let n = length rows - 4 in
    let best = least_loss-one u losses (length rows - 5) n first (omega arith) here.index here.possible in
    record {
      best = best;
      each = (λ j low high. one_more u losses c.args.indices.now (length rows - 5) n first.index j (search rules) best.1
          (λ more. absurd (omega arith)) low);
    }

pub loop-k-preserved : goal.loop-k-preserved
loop-k-preserved c =
    let rows = c.args.rows.now in
    let u = traceback rows 0 in
    let losses = c.args.losses.now in
    let here = c.survivor_deviation.ensures in
    let old = c.loop-k.invariant in
    let some = c.loop-k-test.true in
    let k = c.loop-k.k - 1 in
    let n = length rows - 4 in
    let best = c.or_later_deviation_if_better-best.ensures u losses k c.loop-k.k n
    (least_loss-one u losses k c.loop-k.k c.survivor_deviation.result (omega arith) here.index here.possible) old.best in
    record {
      best = best;
      each = (λ j low high. one_more u losses c.loop-k.indices k n c.or_later_deviation_if_better-best.result.index j (search rules) best.1
          (λ more. old.each j (omega arith) high) low);
    }

pub overflow_cast-indices-in-loop-k : goal.overflow_cast-indices-in-loop-k
overflow_cast-indices-in-loop-k c =
    let rows = c.args.rows.now in
    let here = c.survivor_deviation.ensures in
    let some = c.loop-k-test.true in
    let k = c.loop-k.k - 1 in
    let best = c.or_later_deviation_if_better-best.ensures (traceback rows 0) c.args.losses.now k c.loop-k.k (length rows - 4)
    (least_loss-one (traceback rows 0) c.args.losses.now k c.loop-k.k c.survivor_deviation.result (omega arith) here.index here.possible)
    c.loop-k.invariant.best in
    let within = best.1.in_range in
    let most = c.requires.at_most in
    omega arith
