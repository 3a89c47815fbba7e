use Rattle.{
  std.proofs.Common.{◌≡◌, ◌+◌, ◌*◌, ◌-◌, ◌<◌, ◌++◌, drop, take, ap, ap₂, sym, ◌∙◌, subst, arith},
  std.proofs.{Math.Seq.take-add, lemmas.{Int.ints, List.drop-drop}},
  trellis_decode.{
    specs.{AcsLanes.{path_metric, metrics_of_lanes}, SurvivorPaths.AreMetricsWithin},
    proofs.{AcsSteps.{AreSignedOctets-pair, pair_at}, SurvivorLists.{HaveHeadroom16-even, HaveHeadroom16-odd}},
  },
}
use Rattle.trellis_decode.proofs.backward.extend_survivors.Goals as goal

pub loop-k-init : goal.loop-k-init
loop-k-init c =
    let none : 0 ≡ 2 * (c.args.places - c.args.places) = omega arith in
    let same = ap₂ metrics_of_lanes c.new-walk.ensures.even c.new-walk.ensures.odd in
    record {
      walk = rw (← none) (rw same c.new-walk.ensures.walk);
      within = subst (λ most. AreMetricsWithin most (path_metric c.new-walk.result.values)) (omega arith)
          (subst (AreMetricsWithin 58368) (sym same) c.requires.within);
      even = rw c.new-walk.ensures.even c.requires.even;
      odd = rw c.new-walk.ensures.odd c.requires.odd;
      count = c.new-walk.ensures.count;
    }

pub step-walk-requires-clause-even : goal.step-walk-requires-clause-even
step-walk-requires-clause-even c = HaveHeadroom16-even _ c.loop-k.walk.values.odd_states.lanes
    _ (omega arith) c.loop-k.invariant.within c.loop-k.invariant.even.count

pub step-walk-requires-clause-odd : goal.step-walk-requires-clause-odd
step-walk-requires-clause-odd c = HaveHeadroom16-odd c.loop-k.walk.values.even_states.lanes _
    _ (omega arith) c.loop-k.invariant.within c.loop-k.invariant.odd.count

pub loop-k-preserved : goal.loop-k-preserved
loop-k-preserved c =
    let soft = c.args.soft.now in
    let k = c.loop-k.k in
    let pair = pair_at _ (2 * (k - 1)) in
    let within : k - 1 < 4 = omega arith in
    let has = c.four_branch_metrics-branch_metrics.ensures.has _ _ within in
    let rest = take _ _ in
    let whole : pair ++ rest ≡ take (2 * (c.args.places - (k - 1))) (drop (2 * (k - 1)) soft) =
    ap (λ l. pair ++ take (2 * (c.args.places - k)) l) (sym (drop-drop 2 (2 * (k - 1)) soft ∙ ap (λ n. drop n soft) (omega arith)))
    ∙ sym (take-add 2 (2 * (c.args.places - k)) (drop (2 * (k - 1)) soft))
    ∙ ap (λ n. take n (drop (2 * (k - 1)) soft)) (omega arith) in
    record {
      walk = rw (← whole) (c.step-walk.ensures.walk pair has (path_metric c.args.after) rest c.loop-k.invariant.walk);
      within = subst (λ most. AreMetricsWithin most (path_metric c.step-walk.result.values)) (omega arith)
          (c.step-walk.ensures.within pair has (AreSignedOctets-pair _ _ c.requires.octets) (58368 + 256 * (c.args.places - k))
          c.loop-k.invariant.within);
      even = c.step-walk.ensures.even;
      odd = c.step-walk.ensures.odd;
      count = c.step-walk.ensures.count;
    }

pub returns-clause-walk : goal.returns-clause-walk
returns-clause-walk c =
    let none : c.loop-k.k ≡ 0 = omega arith in
    let all : 2 * (c.args.places - c.loop-k.k) ≡ 2 * c.args.places = omega arith in
    rw (all, none) at c.loop-k.invariant.walk

pub returns-clause-within : goal.returns-clause-within
returns-clause-within c = record {
  lower_bound = c.loop-k.invariant.within.lower_bound;
  upper_bound = λ s lt. omega (arith, ints, c.loop-k.invariant.within.upper_bound s lt);
}
