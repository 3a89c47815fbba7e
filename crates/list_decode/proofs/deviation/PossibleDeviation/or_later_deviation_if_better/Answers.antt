use Rattle.{
  std.proofs.{Common.{arith, get_or}, lemmas.Int.ints},
  list_decode.proofs.{DeviatingWords.{loss_limit-below, loss_limit-not_below}, Spans.{least_loss-early, least_loss-later}},
}
use Rattle.list_decode.proofs.deviation.PossibleDeviation.or_later_deviation_if_better.Goals as goal

pub returns-then-is_improved_by : goal.returns-then-is_improved_by
returns-then-is_improved_by c u losses from k n early later =
    let lost = early.0.loss in
    let limit = early.0.loss_limit in
    let other = later.0.loss in
    let less = c.is_improved_by.ensures.after c.if-is_improved_by.true in (
      later.0,
      least_loss-later u losses from k n c.args.self.index c.args.later.index early.0.bit early.1 later.1
          (loss_limit-below _ _ (get_or u c.args.self.index 0) early.0.bit (omega (arith, ints))),
    )

pub returns-else-is_improved_by : goal.returns-else-is_improved_by
returns-else-is_improved_by c u losses from k n early later =
    let lost = early.0.loss in
    let limit = early.0.loss_limit in
    let other = later.0.loss in
    let most = c.is_improved_by.ensures.not_after c.if-is_improved_by.false in (
      early.0,
      least_loss-early u losses from k n c.args.self.index c.args.later.index early.0.bit early.1 later.1
          (loss_limit-not_below _ _ (get_or u c.args.self.index 0) early.0.bit (omega (arith, ints))),
    )
