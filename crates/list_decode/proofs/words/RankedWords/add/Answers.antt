use Rattle.{std.proofs.Common.{rules, ◌≡◌, length}, list_decode.proofs.ReturnedWords.{IsRanking-next, returned_words-next}}
use Rattle.list_decode.proofs.words.RankedWords.add.Goals as goal

pub returns-clause-ranking : goal.returns-clause-ranking
returns-clause-ranking c u is =
    let words = c.args.self.now in
    let many : length words.deviations ≡ 63 = search rules in
    let room : length words.branches ≡ 127 = search rules in (
      IsRanking-next words c.requires.ranking c.requires.space many room u c.args.next.now is,
      returned_words-next words c.requires.ranking c.requires.space many room u c.args.next.now is,
    )
