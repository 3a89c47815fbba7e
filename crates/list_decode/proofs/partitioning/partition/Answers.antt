use Rattle.{
  std.proofs.{Common.{arith, rules, ◌+◌, ◌*◌, ◌%◌, get_or, refl, ap, w32, FitsSigned}, lemmas.Int.to_z-of_z},
  list_decode.{
    proofs.{Choices.deviation-candidate, Spans.{IsSpanOfWord-after, IsSpanOfWord-deviation}, partitioning.partition.Goals.After-apply},
    specs.{Passes.soft_bits_of_pass, Ranking.IsCandidate},
  },
  weight_bound.proofs.conv_code.Lemmas.bit_at-most_1,
}
use Rattle.list_decode.proofs.partitioning.partition.Goals as goal

deviating_word : (c : After-apply) → IsCandidate (soft_bits_of_pass c.args.pass.now) c.apply.new.u
deviating_word c =
    let r = c.requires in
    rw c.apply.ensures (deviation-candidate c.args.pass.now c.args.u.now c.args.deviation.now r.pass r.inside.candidate r.inside.deviation)

pub new-requires-clause-list : goal.new-requires-clause-list
new-requires-clause-list c = deviating_word (goal.at.new-requires-clause-list c).After-apply

pub overflow_add-behind-2 : goal.overflow_add-behind-2
overflow_add-behind-2 c =
    let word = deviating_word (goal.at.overflow_add-behind-2 c).After-apply in
    let bit = bit_at-most_1 c.apply.new.u c.from-2.result word.information.bits in
    let state = c.requires.inside.deviation.state_in_range in
    omega arith

pub new-branch_after-requires-clause-span : goal.new-branch_after-requires-clause-span
new-branch_after-requires-clause-span c =
    let r = c.requires in
    let fits : FitsSigned w32 c.args.span.metric = search rules in
    IsSpanOfWord-after c.args.pass.now c.args.u.now c.args.deviation.now r.pass r.inside.candidate r.inside.deviation
    c.args.span _ r.inside.is_span r.inside.to refl refl
    (to_z-of_z w32 c.args.span.metric fits)
    (ap (λ index. (2 * c.args.deviation.now.point.state + get_or c.args.u.now index 0) % 16) c.from.ensures)

pub new-requires-clause-span : goal.new-requires-clause-span
new-requires-clause-span c =
    let r = c.requires in
    let fits : FitsSigned w32 c.args.deviation.now.metric = search rules in
    IsSpanOfWord-deviation c.args.pass.now c.args.u.now c.args.deviation.now r.pass r.inside.candidate r.inside.deviation
    c.apply.new.u _ c.apply.ensures
    (deviating_word (goal.at.new-requires-clause-span c).After-apply) refl
    (let five = r.pass.at_least in omega arith) (to_z-of_z w32 c.args.deviation.now.metric fits)
    (ap (λ index. (2 * c.args.deviation.now.point.state + get_or c.apply.new.u index 0) % 16) c.from-2.ensures)
