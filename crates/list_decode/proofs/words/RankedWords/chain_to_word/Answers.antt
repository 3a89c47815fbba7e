use Rattle.{
  std.proofs.{Common.{arith, ◌≡◌, ◌+◌, ◌-◌, drop, get_or, set, subst, sym, ◌∙◌}, lemmas.List.length-set},
  list_decode.{specs.Words.{IsChainOfDeviations, placeholder_deviation}, proofs.ReturnedWords.chain-more},
}
use Rattle.list_decode.proofs.words.RankedWords.chain_to_word.Goals as goal

pub loop-at-preserved : goal.loop-at-preserved
loop-at-preserved c =
    let words = c.args.self.now in
    let old = c.loop-at.invariant in
    let start = c.loop-at.chain.start in
    let at = c.loop-at.at in
    let some = c.loop-at-test.true in
    let is = c.from.ensures in
    let within = old.within in
    let left = old.left in
    let high = old.start in
    let higher_ranked = (c.requires.ranking.made_by_deviation (c.from.result - 1) (omega arith)).higher_ranked in
    let many = old.long in
    let back : start ≡ start - 1 + 1 = omega arith in
    record {
      long = length-set c.loop-at.chain.word_indices (start - 1) at ∙ many;
      start = omega arith;
      within = omega arith;
      left = omega arith;
      chain = subst (λ n. IsChainOfDeviations words (drop (start - 1) (set c.loop-at.chain.word_indices (start - 1) at))
          (get_or words.deviations (n - 1) placeholder_deviation).word_index c.args.word_index) (sym is)
          (chain-more words c.loop-at.chain.word_indices (start - 1) at c.args.word_index (omega arith) (omega arith) old.within
          (subst (λ n. IsChainOfDeviations words (drop n c.loop-at.chain.word_indices) at c.args.word_index) back old.chain));
    }
