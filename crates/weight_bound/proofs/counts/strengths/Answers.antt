use Rattle.{
  std.{proofs.{Common.{rules, ◌∙◌, ap, get_or, pos, FitsSigned, w8}, lemmas.Int.to_z-of_z}, specs.Prelude.unsigned_abs},
  weight_bound.proofs.Lemmas.{IsSoFar-none, IsSoFar-more, AreLeastAndGreatestStrength-whole},
}
use Rattle.weight_bound.proofs.counts.strengths.Goals as goal

pub loop-value-init : goal.loop-value-init
loop-value-init c =
    let soft = c.args.soft.now in
    let fits : FitsSigned w8 (get_or soft 0 (pos 0)) = search rules in
    IsSoFar-none soft _ c.requires.any (c.unsigned_abs-least.ensures.value ∙ ap unsigned_abs (to_z-of_z w8 (get_or soft 0 (pos 0)) fits))

pub loop-value-preserved : goal.loop-value-preserved
loop-value-preserved c =
    let soft = c.args.soft.now in
    let k = c.loop-value.value-index in
    let fits : FitsSigned w8 (get_or soft k (pos 0)) = search rules in
    let strength = c.unsigned_abs-strength.ensures.value ∙ ap unsigned_abs (to_z-of_z w8 (get_or soft k (pos 0)) fits) in
    rw (c.min-least.ensures, c.max-greatest.ensures) (IsSoFar-more soft k _ _ _ c.loop-value-test.true strength c.loop-value.invariant)

pub returns : goal.returns
returns c = AreLeastAndGreatestStrength-whole c.args.soft.now c.loop-value.value-index _ _ c.loop-value-test.false c.loop-value.invariant
