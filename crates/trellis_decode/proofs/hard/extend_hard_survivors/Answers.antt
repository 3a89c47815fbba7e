use Rattle.{
  std.proofs.{Common.{◌≡◌, ◌+◌, ◌*◌, ◌-◌, ◌<◌, drop, refl, subst, arith}, lemmas.{Int.ints, List.drop_all}},
  trellis_decode.{
    specs.{Hard.{DifferByAtMost, hard_lane_metrics}, SurvivorPaths.AreMetricsWithin},
    proofs.{AcsSteps.{AreSignedOctets-pair, pair_at, pair_and_after, HaveHeadroom8-within, hard_octets}, SurvivorLists.AreSurvivors-none},
  },
}
use Rattle.trellis_decode.proofs.hard.extend_hard_survivors.Goals as goal

pub loop-k-init : goal.loop-k-init
loop-k-init c =
    record {
      walk = rw (drop_all 8 (c.args.soft.now) (omega (arith, c.requires.count))) (AreSurvivors-none _);
      within = c.requires.within;
      near = c.requires.near;
      lanes = c.requires.lanes;
      count = refl;
    }

pub step-walk-requires-clause-headroom : goal.step-walk-requires-clause-headroom
step-walk-requires-clause-headroom c =
    HaveHeadroom8-within _ _ (omega arith) c.loop-k.invariant.lanes.count c.loop-k.invariant.within

pub step-walk-requires-clause-near : goal.step-walk-requires-clause-near
step-walk-requires-clause-near c j k lj lk = omega (arith, ints, c.loop-k.invariant.near j k lj lk)

pub step-walk-requires-clause-count : goal.step-walk-requires-clause-count
step-walk-requires-clause-count c = grind arith

pub loop-k-preserved : goal.loop-k-preserved
loop-k-preserved c =
    let soft = c.args.soft.now in
    let k = c.loop-k.k in
    let pair = pair_at soft (2 * (k - 1)) in
    let within : k - 1 < 4 = omega arith in
    let has = c.hard_branch_metrics-branch_metrics.ensures.has _ _ within in
    let next : 2 * (k - 1) + 2 ≡ 2 * k = omega arith in
    record {
      walk = rw (← pair_and_after soft (2 * (k - 1)) (2 * k) next)
          (c.step-walk.ensures.walk pair has (hard_lane_metrics c.args.after.lanes) (drop (2 * k) soft) c.loop-k.invariant.walk);
      within = subst (λ most. AreMetricsWithin most (hard_lane_metrics c.step-walk.result.values.lanes)) (omega arith)
          (c.step-walk.ensures.within pair has (AreSignedOctets-pair _ _ (hard_octets _ c.requires.hard))
          (58368 + 256 * (4 - k)) c.loop-k.invariant.within);
      near = subst (λ most. DifferByAtMost most c.step-walk.result.values.lanes) (omega arith)
          (c.step-walk.ensures.near (8 + 2 * (4 - k)) c.loop-k.invariant.near);
      lanes = c.step-walk.ensures.lanes;
      count = c.step-walk.ensures.count;
    }

pub returns-clause-walk : goal.returns-clause-walk
returns-clause-walk c = let none : c.loop-k.k ≡ 0 = omega arith in rw none at c.loop-k.invariant.walk

pub returns-clause-within : goal.returns-clause-within
returns-clause-within c = let none : c.loop-k.k ≡ 0 = omega arith in rw none at c.loop-k.invariant.within
