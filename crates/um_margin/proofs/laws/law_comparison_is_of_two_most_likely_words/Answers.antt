use Rattle.{
  um_margin.proofs.Lemmas.{AreTwoMostLikelyWords-compared_words, AreTwoMostLikelyBlockWords-compared_block_words},
  um_margin.proofs.Lemmas.{compared_block_words-only, one_compared},
}
use Rattle.um_margin.proofs.laws.law_comparison_is_of_two_most_likely_words.Goals as goal

pub returns : goal.returns
returns c = record {
  words = AreTwoMostLikelyWords-compared_words;
  only = one_compared;
  block = AreTwoMostLikelyBlockWords-compared_block_words;
  only_block = compared_block_words-only;
}
