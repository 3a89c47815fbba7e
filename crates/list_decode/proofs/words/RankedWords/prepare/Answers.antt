use Rattle.{
  std.proofs.Common.{arith, rules, ◌≡◌, ◌+◌, ◌*◌, ◌-◌, ◌∷◌, [], ap, ◌∙◌, refl, set, take, w32, FitsSigned},
  std.proofs.lemmas.{Grind.take-set_at, Int.to_z-of_z},
  weight_bound.specs.conv_code.Likelihood.IsMostLikely,
  list_decode.{
    specs.{Passes.soft_bits_of_pass, declared.branch.WordSpan.WordSpan},
    proofs.ReturnedWords.{IsRanking-first, IsRankingSoFar-from, IsSpanOfWord-first, first_word-metric, first_word-most_likely},
    proofs.words.RankedWords.prepare.Goals.After-run_backward_pass,
  },
}
use Rattle.list_decode.proofs.words.RankedWords.prepare.Goals as goal

one : (c : After-run_backward_pass) → c.args.self.now.count ≡ 1
one c = let some = c.requires.some in let few = c.if-self-gt1.false in omega arith

best : (c : After-run_backward_pass) →
    IsMostLikely (soft_bits_of_pass c.run_backward_pass.new.self) (take c.run_backward_pass.new.self.bits c.args.self.now.first_word)
best c = first_word-most_likely c.args.self.now c.run_backward_pass.new.self c.requires.sound (one c) c.run_backward_pass.ensures.soft
    c.run_backward_pass.ensures.bits

pub new-requires-clause-list : goal.new-requires-clause-list
new-requires-clause-list c =
    let is = best (goal.at.new-requires-clause-list c).After-run_backward_pass in
    record { information = is.information; count = is.count }

pub new-requires-clause-span : goal.new-requires-clause-span
new-requires-clause-span c =
    let at = (goal.at.new-requires-clause-span c).After-run_backward_pass in
    let pass = c.run_backward_pass in
    let fits : FitsSigned w32 c.args.self.now.first_metric = search rules in
    IsSpanOfWord-first pass.new.self _ _ pass.ensures.pass (best at)
    (to_z-of_z w32 c.args.self.now.first_metric fits
    ∙ first_word-metric c.args.self.now pass.new.self c.requires.sound (one at) pass.ensures.soft pass.ensures.bits) refl
    (let five = pass.ensures.pass.at_least in omega arith) refl

pub returns-clause-ranking : goal.returns-clause-ranking
returns-clause-ranking c =
    let at = (goal.at.returns-clause-ranking c).After-run_backward_pass in
    let words = c.args.self.now in
    let one_word = one at in
    let span = c.new.ensures.span in
    let five = c.run_backward_pass.ensures.pass.at_least in
    let is_open : take (2 * words.count - 1) (set words.branches 0 c.new.result) ≡ c.new.result ∷ [] =
    take-set_at words.branches 0 (2 * words.count - 1) c.new.result (omega arith) (search rules) in
    IsRanking-first _ c.new.result one_word is_open c.run_backward_pass.ensures.pass (best at) c.new.ensures.branch
    (ap (λ (s : WordSpan). s.word_index) span) (ap (λ (s : WordSpan). s.from) span)
    (ap (λ (s : WordSpan). s.to + 4) span ∙ omega arith)

pub returns-clause-sound : goal.returns-clause-sound
returns-clause-sound c = IsRankingSoFar-from _ (returns-clause-ranking c) (λ one.
    first_word-metric c.args.self.now c.run_backward_pass.new.self c.requires.sound one c.run_backward_pass.ensures.soft
    c.run_backward_pass.ensures.bits)
