use Rattle.{
  std.proofs.Common.{arith, ◌≡◌, ◌<◌, ◌++◌, ◌∷◌, [], Some, None, ap, length, of_z, subst, sym, to_z, w32, ◌∙◌},
  list_decode.{
    proofs.{
      ReturnedWords.{IsRankingDone-none, information, push-empty},
      ranked.ListDecoder.next.Goals.{After-write_first_word, After-write_next_word},
    },
    specs.{Ranking.{IsRankingDone, Ranking}, Words.returned_words},
  },
}
use Rattle.list_decode.proofs.ranked.ListDecoder.next.Goals as goal

pub write_first_word-requires-clause-count : goal.write_first_word-requires-clause-count
write_first_word-requires-clause-count c =
    let p = c.self.invariant.has_soft_bits in
    let s = c.requires.count in
    let v = ap (λ (v : Ranking). length v.soft) c.self.view_is in
    omega arith

first : (c : After-write_first_word) →
    returned_words c.write_first_word.new.self ≡ returned_words c.self.inside.words ++ c.write_first_word.new.u ∷ []
first c = c.write_first_word.ensures.returned ∙ sym (push-empty (returned_words c.self.inside.words) c.write_first_word.new.u
    (c.self.invariant.count ∙ c.if-self-eq0.true))

pub returns-then-self-eq0-clause-information : goal.returns-then-self-eq0-clause-information
returns-then-self-eq0-clause-information c =
    let is = c.write_first_word.ensures in
    information c.self.inside.words c.write_first_word.new.self c.write_first_word.new.u is.sound is.soft (Unit {0}) (λ value. Unit {0})
    (Some c.write_first_word.result) (first (goal.at.returns-then-self-eq0-clause-information c).After-write_first_word, tt)

pub returns-then-self-eq0-clause-done : goal.returns-then-self-eq0-clause-done
returns-then-self-eq0-clause-done c =
    let is = c.write_first_word.ensures in
    let n = c.self.invariant.count in
    let zero = c.if-self-eq0.true in
    let result = Some (to_z w32 (of_z w32 c.write_first_word.result)) in
    subst (λ (old : Ranking). (result ≡ None → IsRankingDone old) × (IsRankingDone old → result ≡ None)) c.self.view_is
    (IsRankingDone-none c.self.inside.words c.write_first_word.new.self c.write_first_word.new.u is.sound is.soft (Unit {0}) (Unit {0})
    (λ value. Unit {0}) result (omega arith)
    (first (goal.at.returns-then-self-eq0-clause-done c).After-write_first_word, tt))

few : (c : After-write_next_word) → length (returned_words c.self.inside.words) < 64
few c =
    let n = c.self.invariant.count in
    let most = c.self.invariant.at_most in
    let not_all = c.if-self-eq-MAX_RANK.false in
    omega arith

pub returns-clause-information : goal.returns-clause-information
returns-clause-information c =
    let is = c.write_next_word.ensures in
    information c.self.inside.words c.write_next_word.new.self c.write_next_word.new.u is.sound is.soft _ _ c.write_next_word.result
    is.returned

pub returns-clause-done : goal.returns-clause-done
returns-clause-done c =
    let is = c.write_next_word.ensures in
    subst (λ (old : Ranking). (c.write_next_word.result ≡ None → IsRankingDone old) ×
    (IsRankingDone old → c.write_next_word.result ≡ None)) c.self.view_is
    (IsRankingDone-none c.self.inside.words c.write_next_word.new.self c.write_next_word.new.u is.sound is.soft _ _ _
    c.write_next_word.result (few (goal.at.returns-clause-done c).After-write_next_word) is.returned)
