use Rattle.{
  std.proofs.Common.{arith, rules, ◌<◌, ◌-ℤ◌, take, refl, ap, ap₂, sym, ◌∙◌, subst, w32, FitsSigned, to_z, of_z},
  std.proofs.lemmas.Int.to_z-of_z,
  list_decode.specs.{Branches.is_in_range, LeastLosses.IsLeastLossDeviationOrNone, Passes.losses_of_pass},
  list_decode.proofs.{DeviatingWords.state_after-below, Spans.{best_deviation, deviation-fits}},
}
use Rattle.list_decode.proofs.branch.WordBranch.new.Goals as goal

pub overflow_sub-metric : goal.overflow_sub-metric
overflow_sub-metric c =
    let span = c.args.span in
    let deviation = c.in-Some.found in
    let found = subst (IsLeastLossDeviationOrNone c.args.u.now (losses_of_pass c.args.pass.now) (is_in_range span.from span.to) span.to)
    c.in-Some.is
    c.find_least_loss.ensures in
    let a : FitsSigned w32 span.metric = search rules in
    let b : FitsSigned w32 deviation.loss = search rules in
    subst (FitsSigned w32) (sym (ap₂ (λ x y. x -ℤ y) (to_z-of_z w32 span.metric a) (to_z-of_z w32 deviation.loss b)))
    (deviation-fits c.args.pass.now c.args.u.now span c.requires.pass c.requires.list c.requires.span deviation found)

pub returns-in-Some-clause-branch : goal.returns-in-Some-clause-branch
returns-in-Some-clause-branch c =
    let span = c.args.span in
    let deviation = c.in-Some.found in
    let found = subst (IsLeastLossDeviationOrNone c.args.u.now (losses_of_pass c.args.pass.now) (is_in_range span.from span.to) span.to)
    c.in-Some.is
    c.find_least_loss.ensures in
    let a : FitsSigned w32 span.metric = search rules in
    let b : FitsSigned w32 deviation.loss = search rules in
    let both = ap₂ (λ x y. x -ℤ y) (to_z-of_z w32 span.metric a) (to_z-of_z w32 deviation.loss b) in
    let fits = deviation-fits c.args.pass.now c.args.u.now span c.requires.pass c.requires.list c.requires.span deviation found in
    record {
      span = c.requires.span;
      best = best_deviation c.args.pass.now c.args.u.now span c.requires.pass c.requires.list c.requires.span deviation found _ refl
          c.new-point.ensures.index c.new-point.ensures.state c.new-point.ensures.bit
          (ap (λ z. to_z w32 (of_z w32 z)) both ∙ to_z-of_z w32 (span.metric -ℤ deviation.loss) fits);
      metric = refl;
    }

pub new-point-requires-clause-state : goal.new-point-requires-clause-state
new-point-requires-clause-state c =
    let span = c.args.span in
    let found = subst (IsLeastLossDeviationOrNone c.args.u.now (losses_of_pass c.args.pass.now) (is_in_range span.from span.to) span.to)
    c.in-Some.is
    c.find_least_loss.ensures in
    subst (λ s. s < 16) (sym found.0.state) (state_after-below 0 (take c.in-Some.found.index c.args.u.now) (omega arith))
