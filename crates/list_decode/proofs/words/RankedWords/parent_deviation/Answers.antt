use Rattle.{
  std.proofs.Common.{arith, ◌-◌, get_or, subst},
  list_decode.{specs.Words.{IsMadeByDeviation, returned_words, placeholder_deviation}, proofs.ReturnedWords.same_position-parent},
}
use Rattle.list_decode.proofs.words.RankedWords.parent_deviation.Goals as goal

pub returns-then-up-deviation-clause-forks : goal.returns-then-up-deviation-clause-forks
returns-then-up-deviation-clause-forks c w =
    let words = c.args.self.now in
    let us = returned_words words in
    let some = c.requires.some in
    let within = c.requires.within in
    let is = c.from.ensures in
    let up = get_or words.deviations (c.from.result - 1) placeholder_deviation in
    let returned =
    subst (λ i. IsMadeByDeviation words.pass us i up) (omega arith)
    (c.requires.ranking.made_by_deviation (c.from.result - 1) (omega arith)) in
    same_position-parent words.pass us w c.args.deviation.now up c.requires.ranking.pass
    c.requires.ranking.ranked.ranked_words_are_candidates returned c.if-up-deviation.true
