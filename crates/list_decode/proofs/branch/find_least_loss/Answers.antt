use Rattle.{
  std.proofs.{Common.{arith, ◌≡◌, ◌<◌, Some, inl, inr, get_or, ap, ◌∙◌, subst}, lemmas.Bool.cases_lt},
  list_decode.{
    specs.{Branches.is_in_range, LeastLosses.IsLeastLossDeviationOrNone, Passes.losses_of_pass},
    proofs.{Spans.{merged_tail, is_between}, branch.find_least_loss.Goals.After-survivor_deviation-later},
  },
}
use Rattle.list_decode.proofs.branch.find_least_loss.Goals as goal

tail : (c : After-survivor_deviation-later) → IsLeastLossDeviationOrNone c.args.u.now (losses_of_pass c.args.pass.now)
    (is_in_range c.find_merging_index-merging.result c.args.span.now.to) c.args.span.now.to (Some c.survivor_deviation-later.result)
tail c =
    let span = c.args.span.now in
    let m = c.find_merging_index-merging.result in
    let is = c.find_merging_index-merging.ensures in
    let not_before_end = c.if-from-pass.false in
    let is_to = c.from.ensures in
    let not_at_end = c.if-merging-span.false in
    let from = is.from in
    let to = is.to in
    let inside : m < span.to = omega arith in
    let later = c.survivor_deviation-later in
    merged_tail c.args.pass.now c.args.u.now span m later.result c.requires.pass c.requires.list c.requires.span (omega arith) from inside
    (is.merged inside) (later.ensures.index ∙ c.from-3.ensures ∙ ap (λ i. get_or c.args.pass.now.tails.indices i 0) c.from-2.ensures)
    later.ensures.possible

pub returns-in-None : goal.returns-in-None
returns-in-None c =
    let u = c.args.u.now in
    let span = c.args.span.now in
    let losses = losses_of_pass c.args.pass.now in
    let m = c.find_merging_index-merging.result in
    let from = c.find_merging_index-merging.ensures.from in
    let none = subst (IsLeastLossDeviationOrNone u losses (is_in_range span.from m) m) c.in-None.is
    c.find_least_loss_in_span-early.ensures in
    elim (cases_lt span.from m) [
      | inl less ↦ absurd (none span.from less (is_between span.from m span.from (omega arith) less))
      | inr not_less ↦
          let same : m ≡ span.from = omega arith in
          let later = c.survivor_deviation-later.result in
          subst (λ from. IsLeastLossDeviationOrNone u losses (is_in_range from span.to) span.to (Some later)) same
          (tail (goal.at.returns-in-None c).After-survivor_deviation-later)
    ]

pub returns-in-Some : goal.returns-in-Some
returns-in-Some c =
    let u = c.args.u.now in
    let span = c.args.span.now in
    let losses = losses_of_pass c.args.pass.now in
    let m = c.find_merging_index-merging.result in
    c.or_later_deviation_if_better.ensures u losses span.from m span.to
    (subst (IsLeastLossDeviationOrNone u losses (is_in_range span.from m) m) c.in-Some.is c.find_least_loss_in_span-early.ensures)
    (tail (goal.at.returns-in-Some c).After-survivor_deviation-later)
