use Rattle.{
  std.proofs.{Common.{◌≡◌, ◌∙◌, ◌-◌, negsuc, lit≤, arith, w8}, lemmas.Int.ints},
  lanes.proofs.Lanes.AreSigned-splat,
  trellis_decode.{
    specs.Hard.hard_lane_metrics,
    proofs.AcsSteps.{HaveHeadroom8-within, bit_0_candidate-metric, hard_metric-at, hard_octets, start, start-metric},
    proofs.FilledMaps.{tail-more, tail-none, tail-within},
  },
}
use Rattle.trellis_decode.proofs.hard.hard_path_metrics_before_tail.Goals as goal

pub loop-k-init : goal.loop-k-init
loop-k-init c = record {
  best = tail-none c.args.soft.now c.requires.count (hard_lane_metrics start) start-metric;
  lanes = AreSigned-splat w8 16 (negsuc 119) (omega (arith, ints));
}

pub bit_0_candidates-values-requires-clause-headroom : goal.bit_0_candidates-values-requires-clause-headroom
bit_0_candidates-values-requires-clause-headroom c =
    HaveHeadroom8-within c.loop-k.values.lanes 1024 (lit≤ tt) c.loop-k.invariant.lanes.count
    (tail-within c.args.soft.now c.requires.count c.loop-k.k _ (hard_octets _ c.requires.hard) c.loop-k.invariant.best)

pub loop-k-preserved : goal.loop-k-preserved
loop-k-preserved c =
    let before = c.loop-k.k - 1 in
    let values = c.bit_0_candidates-values.result.lanes in
    record {
      best = tail-more c.args.soft.now c.requires.count (hard_lane_metrics c.loop-k.values.lanes) (hard_lane_metrics values) before
          c.loop-k.k (omega arith) (omega arith) (λ s lt. hard_metric-at values s lt
          ∙ bit_0_candidate-metric c.loop-k.values.lanes _ _ (c.hard_branch_metrics-branch_metrics.ensures.has before _ (omega arith))
          values c.bit_0_candidates-values.ensures.each s lt) c.loop-k.invariant.best;
      lanes = c.bit_0_candidates-values.ensures.lanes;
    }

pub returns-clause-best : goal.returns-clause-best
returns-clause-best c s lt = let none : c.loop-k.k ≡ 0 = omega arith in rw none at (c.loop-k.invariant.best s lt)
