-- The most likely encoder input for soft bits, compared with the second most likely one (this project's own rule).
use Rattle.std.specs.Prelude.{ℕ, ◌≡◌, ℤ, pos, ◌-ℤ◌, List, map}
use Rattle.um_block.specs.bit_blocks.SoftValues.{likelihood}
use Rattle.um_block.specs.conv_code.Code.{encoding}
use Rattle.um_block.specs.conv_code.Likelihood.{IsMostLikely}
use Rattle.um_block.specs.interleave.Bursts.{IsInterleaved, deinterleaved}
use Rattle.um_block.specs.trellis_decode.MostLikely.{most_likely}
use Rattle.list_decode.specs.Ranking.{IsSecondMostLikely, IsLikelihoodMargin}
use Rattle.list_decode.specs.SecondWord.{second_most_likely}
use Rattle.um_block.specs.Received.{coded_soft_bits}

-- the most likely word, the next most likely one, the difference between their path metrics (`margin`), and the path metric of the most
-- likely word (`metric`)
pub record TwoMostLikelyWords : Type 0 where
  pub best : List ℕ
  pub next : List ℕ
  pub margin : ℤ
  pub metric : ℤ

-- `compared_words` compares the two most likely words for the soft bits `soft`
pub record AreTwoMostLikelyWords (soft : List ℤ) (compared_words : TwoMostLikelyWords) : Type 0 where
  pub best : IsMostLikely soft compared_words.best
  pub next : IsSecondMostLikely soft compared_words.best compared_words.next
  pub margin : IsLikelihoodMargin soft compared_words.best compared_words.margin
  pub margin_is_difference : compared_words.margin ≡ likelihood soft (encoding compared_words.best) -ℤ likelihood soft (encoding
      compared_words.next)
  pub metric : compared_words.metric ≡ likelihood soft (encoding compared_words.best)

-- `compared_words` compares the two most likely words for the four `bursts` of a block
pub record AreTwoMostLikelyBlockWords (bursts : List (List ℤ)) (compared_words : TwoMostLikelyWords) : Type 0 where
  pub soft : List ℤ
  pub deinterleaved : IsInterleaved soft (map coded_soft_bits bursts)
  pub compared : AreTwoMostLikelyWords soft compared_words

-- ---- the comparisons as functions; the definitions above are their law

abbrev pub compared_words : (soft : List ℤ) → TwoMostLikelyWords
compared_words soft = record {
  best = most_likely soft;
  next = second_most_likely soft;
  margin = likelihood soft (encoding (most_likely soft)) -ℤ likelihood soft (encoding (second_most_likely soft));
  metric = likelihood soft (encoding (most_likely soft));
}

abbrev pub compared_block_words : (bursts : List (List ℤ)) → TwoMostLikelyWords
compared_block_words bursts = compared_words (deinterleaved (pos 0) (map coded_soft_bits bursts))
