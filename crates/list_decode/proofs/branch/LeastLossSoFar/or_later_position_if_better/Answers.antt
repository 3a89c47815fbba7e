use Rattle.{
  std.proofs.{
    Common.{arith, rules, ◌≡◌, ap₂, ◌∙◌, pos, ◌-ℤ◌, to_z, of_z, w16, w32, FitsSigned},
    lemmas.Int.{ints, to_z-of_z},
  },
  list_decode.proofs.{Spans.{least_so_far-old, least_so_far-new}, branch.LeastLossSoFar.or_later_position_if_better.Goals.After-from},
}
use Rattle.list_decode.proofs.branch.LeastLossSoFar.or_later_position_if_better.Goals as goal

same_loss : (c : After-from) → to_z w32 (of_z w32 c.from.result) ≡ c.args.loss
same_loss c =
    to_z-of_z w32 _ (search rules) ∙ c.from.ensures ∙ to_z-of_z w16 _ (search rules)

same_limit : (c : After-from) → to_z w32 (of_z w32 c.args.self.loss_limit) ≡ c.args.self.loss_limit
same_limit c = to_z-of_z w32 _ (search rules)

pub returns-then-from-self : goal.returns-then-from-self
returns-then-from-self c u losses from old state lost bit bits =
    let at = (goal.at.returns-then-from-self c).After-from in
    let a = same_loss at in
    let b = same_limit at in
    let less = c.if-from-self.true in
    let is = c.new.ensures in
    let small : FitsSigned w16 c.args.loss = search rules in
    least_so_far-new u _ _ _ _ c.new.result bits old is.index (is.state ∙ state)
    (is.loss_limit ∙ ap₂ (λ loss bit. loss -ℤ pos bit) (to_z-of_z w16 c.args.loss small ∙ lost) bit)
    (omega (arith, ints))

pub returns-else-from-self : goal.returns-else-from-self
returns-else-from-self c u losses from old state lost bit bits =
    let at = (goal.at.returns-else-from-self c).After-from in
    let a = same_loss at in
    let b = same_limit at in
    let most = c.if-from-self.false in
    least_so_far-old u _ _ _ _ bits old (omega (arith, ints))
