use Rattle.{
  std.proofs.Common.{arith, rules, ◌+◌, ◌-◌, ◌++◌, ◌∷◌, take, drop, get_or, ap₂, ◌∙◌, w32},
  std.proofs.lemmas.Int.to_z-of_z,
  trellis_decode.specs.Trellis.{next_trellis_state, traceback},
  list_decode.proofs.{
    DeviatingWords.{AllBits-traceback, traceback-drop_next, state_after-below},
    Deviations.{AreFirstTwo, first_two},
    Margins.{IsLikelihoodMargin-second, HasTiedWord-margin, margin-hard_bits, both_unique},
    second.margin.Goals.After-write_deviating_word,
  },
}
use Rattle.list_decode.proofs.second.margin.Goals as goal

pub write_deviating_word-requires-clause-bits : goal.write_deviating_word-requires-clause-bits
write_deviating_word-requires-clause-bits c =
    let pairs = c.fill_decisions.ensures.count in
    rw c.find_least_loss-best.ensures.list
    (AllBits-traceback _ c.fill_decisions.new.losses c.args.soft.now c.fill_decisions.ensures.decisions (omega arith))

pub write_deviating_word-requires-clause-chosen : goal.write_deviating_word-requires-clause-chosen
write_deviating_word-requires-clause-chosen c =
    let best = c.find_least_loss-best in
    let is = c.new-deviation.ensures in
    let at = is.index in
    traceback-drop_next c.fill_decisions.new.rows best.new.u c.new-deviation.result.index c.new-deviation.result.state
    best.ensures.list
    (let i = best.ensures.within in let n = c.fill_decisions.auto.rows in let m = best.auto.u in omega arith)
    (let n = c.fill_decisions.auto.rows in let m = best.auto.u in omega arith)
    (rw is.index (is.state ∙ best.ensures.state))

pub new-deviation-requires-clause-state : goal.new-deviation-requires-clause-state
new-deviation-requires-clause-state c =
    let small = state_after-below 0 (take c.find_least_loss-best.result.index c.find_least_loss-best.new.u) (omega arith) in
    let is = c.find_least_loss-best.ensures.state in
    omega arith

both : (c : After-write_deviating_word) →
    AreFirstTwo c.args.soft.now c.find_least_loss-best.new.u c.write_deviating_word.new.v c.find_least_loss-best.result.loss
both c =
    let best = c.find_least_loss-best in
    first_two c.args.soft.now c.fill_decisions.new.rows c.fill_decisions.new.losses best.new.u c.write_deviating_word.new.v
    best.result.index best.result.state _ c.fill_decisions.ensures.decisions c.fill_decisions.ensures.count (omega arith)
    best.ensures.list best.ensures.least best.ensures.within best.ensures.state
    (c.write_deviating_word.ensures
    ∙ ap₂ (λ index state. take index best.new.u
    ++ (1 - get_or best.new.u index 0) ∷ traceback (drop (index + 1) c.fill_decisions.new.rows)
    (next_trellis_state state (1 - get_or best.new.u index 0))) c.new-deviation.ensures.index c.new-deviation.ensures.state)

pub returns-clause-best : goal.returns-clause-best
returns-clause-best c = (both (goal.at.returns-clause-best c).After-write_deviating_word).best

pub returns-clause-second : goal.returns-clause-second
returns-clause-second c = (both (goal.at.returns-clause-second c).After-write_deviating_word).second

pub returns-clause-value : goal.returns-clause-value
returns-clause-value c =
    to_z-of_z w32 c.find_least_loss-best.result.loss (search rules)
    ∙ (both (goal.at.returns-clause-value c).After-write_deviating_word).value

pub returns-clause-only : goal.returns-clause-only
returns-clause-only c a b best next_best =
    both_unique c.args.soft.now c.find_least_loss-best.new.u c.write_deviating_word.new.v a b (returns-clause-best c)
    (returns-clause-second c) best next_best

pub returns-clause-margin : goal.returns-clause-margin
returns-clause-margin c =
    IsLikelihoodMargin-second c.args.soft.now c.find_least_loss-best.new.u c.write_deviating_word.new.v _ (returns-clause-second c)
    (returns-clause-value c)

pub returns-clause-tie : goal.returns-clause-tie
returns-clause-tie c = HasTiedWord-margin c.args.soft.now c.find_least_loss-best.new.u _ (returns-clause-best c)
    (returns-clause-margin c)

pub returns-clause-hard : goal.returns-clause-hard
returns-clause-hard c e hard wrong few =
    let bound = margin-hard_bits c.args.soft.now c.find_least_loss-best.new.u c.write_deviating_word.new.v e
    (returns-clause-best c).information
    (returns-clause-second c).candidate (returns-clause-best c).count (returns-clause-second c).differs hard wrong few in
    rw (returns-clause-value c) bound
