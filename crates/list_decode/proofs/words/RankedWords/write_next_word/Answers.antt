use Rattle.{
  std.proofs.Common.{arith, ◌≡◌, inr, ap₂, subst},
  list_decode.{proofs.ReturnedWords.{every_word_returned, IsRankingSoFar-from}, specs.{Ranking.IsRankingDone, Words.ranking_of}},
}
use Rattle.list_decode.proofs.words.RankedWords.write_next_word.Goals as goal

pub returns-clause-sound : goal.returns-clause-sound
returns-clause-sound c =
    IsRankingSoFar-from c.add.new.self (c.add.ensures.ranking c.find_next_word.new.u c.in_ok-next.ensures.next).0
    (λ one. let some = c.prepare.ensures.ranking.some in absurd (omega arith))

pub returns-in_err-next-clause-returned : goal.returns-in_err-next-clause-returned
returns-in_err-next-clause-returned c =
    let is = c.prepare.ensures in
    let none = c.in_err-next.ensures.next in
    let same : ranking_of c.prepare.new.self ≡ ranking_of c.args.self.now =
    ap₂ (λ s us. record { soft = s; returned = us }) is.soft is.words in
    rw c.from_residual.ensures
    (same, none.1, subst IsRankingDone same (inr (every_word_returned c.prepare.new.self is.ranking none.0)))
