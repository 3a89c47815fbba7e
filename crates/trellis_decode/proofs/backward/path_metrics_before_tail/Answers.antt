use Rattle.{
  std.proofs.Common.{◌≡◌, ◌*◌, ◌-◌, lit≤, arith},
  trellis_decode.{
    specs.AcsLanes.path_metric,
    proofs.{AcsSteps.pair_at, SurvivorLists.HaveHeadroom16-even, FilledMaps.{tail-more, tail-none, tail-within}},
  },
}
use Rattle.trellis_decode.proofs.backward.path_metrics_before_tail.Goals as goal

pub loop-k-init : goal.loop-k-init
loop-k-init c = record {
  best = tail-none c.args.soft.now c.requires.count (path_metric c.new-values.result) c.new-values.ensures.each;
  even = c.new-values.ensures.even;
  odd = c.new-values.ensures.odd;
}

pub tail_step-values-requires-clause-even : goal.tail_step-values-requires-clause-even
tail_step-values-requires-clause-even c =
    HaveHeadroom16-even c.loop-k.values.even_states.lanes c.loop-k.values.odd_states.lanes 1024 (lit≤ tt)
    (tail-within c.args.soft.now c.requires.count c.loop-k.k _ c.requires.octets c.loop-k.invariant.best) c.loop-k.invariant.even.count

pub loop-k-preserved : goal.loop-k-preserved
loop-k-preserved c =
    let before = c.loop-k.k - 1 in
    record {
      best = tail-more c.args.soft.now c.requires.count (path_metric c.loop-k.values) (path_metric c.tail_step-values.result) before
          c.loop-k.k (omega arith) (omega arith) (c.tail_step-values.ensures.each (pair_at c.args.soft.now (2 * before))
          (c.four_branch_metrics-branch_metrics.ensures.has before _ (omega arith))) c.loop-k.invariant.best;
      even = c.tail_step-values.ensures.even;
      odd = c.tail_step-values.ensures.odd;
    }

pub returns-clause-best : goal.returns-clause-best
returns-clause-best c s lt = let none : c.loop-k.k ≡ 0 = omega arith in rw none at (c.loop-k.invariant.best s lt)
