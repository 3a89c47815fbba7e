use Rattle.{
  std.proofs.Common.{arith, ◌≡◌, ap, ap₂, ◌∙◌},
  list_decode.{
    specs.{Branches.word_of_deviation, Words.{returned_words, word_made_by}},
    proofs.{DeviatingWords.{order-test, test, test-slice_cmp}, Choices.deviating_word-candidate},
  },
}
use Rattle.list_decode.proofs.choice.is_lexicographically_before.Goals as goal

pub returns : goal.returns
returns c =
    let words = c.args.words.now in
    let x = c.args.first.now in
    let y = c.args.second.now in
    let is = c.requires.ranking in
    let all = is.ranked.ranked_words_are_candidates in
    let is_x = deviating_word-candidate words.pass (returned_words words) x is.pass all c.requires.first in
    let is_y = deviating_word-candidate words.pass (returned_words words) y is.pass all c.requires.second in
    let m = is_x.count in
    let n = is_y.count in
    let u : c.apply.new.u ≡ word_made_by words x = c.apply.ensures ∙ ap (λ u. word_of_deviation words.pass u x) c.write_word.ensures in
    let v : c.apply-2.new.u ≡ word_made_by words y = c.apply-2.ensures
    ∙ ap (λ u. word_of_deviation words.pass u y) c.write_word-2.ensures in
    order-test (word_made_by words x) (word_made_by words y) c.lt.result is_x.information.bits is_y.information.bits (omega arith)
    (test-slice_cmp c.apply.new.u c.apply-2.new.u c.lt.result c.lt.ensures ∙ ap₂ test u v)
