use Rattle.{
  std.proofs.Common.arith,
  list_decode.{
    specs.Words.{returned_words, word_made_by},
    proofs.{Choices.deviating_word-candidate, ReturnedWords.{same_position-itself, order-earlier, order-later}},
  },
}
use Rattle.list_decode.proofs.choice.compare_deviation_chains.Goals as goal

pub loop-x-init : goal.loop-x-init
loop-x-init c =
    let words = c.args.words.now in
    let is = c.requires.ranking in
    let all = is.ranked.ranked_words_are_candidates in
    record {
      first = same_position-itself words.pass (returned_words words) c.args.first.now is.pass all c.requires.first;
      second = same_position-itself words.pass (returned_words words) c.args.second.now is.pass all c.requires.second;
    }

pub parent_deviation-requires-clause-within : goal.parent_deviation-requires-clause-within
parent_deviation-requires-clause-within c = let i = c.loop-x.invariant.first.in_range in omega arith

pub parent_deviation-requires-else-x-y-clause-within : goal.parent_deviation-requires-else-x-y-clause-within
parent_deviation-requires-else-x-y-clause-within c = let i = c.loop-x.invariant.second.in_range in omega arith

pub returns-then-x-y-2 : goal.returns-then-x-y-2
returns-then-x-y-2 c =
    let words = c.args.words.now in
    let us = returned_words words in
    let is = c.requires.ranking in
    let all = is.ranked.ranked_words_are_candidates in
    order-earlier words.pass us (word_made_by words c.args.first.now) (word_made_by words c.args.second.now) c.loop-x.x c.loop-x.y all
    (deviating_word-candidate words.pass us c.args.first.now is.pass all c.requires.first)
    (deviating_word-candidate words.pass us c.args.second.now is.pass all c.requires.second)
    c.loop-x.invariant.first c.loop-x.invariant.second (omega arith) c.if-x-y-2.true

pub returns-then-y-x : goal.returns-then-y-x
returns-then-y-x c =
    let words = c.args.words.now in
    let us = returned_words words in
    let is = c.requires.ranking in
    let all = is.ranked.ranked_words_are_candidates in
    order-later words.pass us (word_made_by words c.args.first.now) (word_made_by words c.args.second.now) c.loop-x.x c.loop-x.y all
    (deviating_word-candidate words.pass us c.args.first.now is.pass all c.requires.first)
    (deviating_word-candidate words.pass us c.args.second.now is.pass all c.requires.second)
    c.loop-x.invariant.first c.loop-x.invariant.second (omega arith) c.if-y-x.true
