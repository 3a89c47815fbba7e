-- What the relations of `margin` and of rankings refuse: a word that another one beats.
use Rattle.{
  list_decode.specs.{
    Ranking.{HasTiedWord, IsCandidate, IsLikelihoodMargin, IsRanked, IsSecondMostLikely},
    weight_bound.Restoring.OthersAreLessLikely,
  },
  std.{
    proofs.{
      Common.{List, [], arith, inl, inr, negsuc, pos, refl, replicate, suc, zero, ℕ, ℤ, ◌∷◌, ◌≡◌, ◌≢◌},
      lemmas.{Int.ints, List.Elements.All-head},
    },
    specs.Prelude.◌≤ℤ◌,
    specs.List.Contains,
  },
  um_block.{
    proofs.{bit_blocks.Lemmas.AllBits-table, conv_code.Lemmas.IsEncoderInput-tail},
    specs.conv_code.{Code.{IsEncoderInput, encoding}, Likelihood.{IsMostLikely, RanksAfter, likelihood}},
  },
  um_margin.specs.Compared.{AreTwoMostLikelyWords, TwoMostLikelyWords},
}

-- one soft bit of strength 7 and 35 of strength 1: the word of zeros has the metric 28, and the word that begins with a one has 30
abbrev pub one_strong : List ℤ
one_strong = negsuc 6 ∷ replicate 35 (pos 1)

abbrev pub zeros : List ℕ
zeros = replicate 18 0

abbrev pub first_one : List ℕ
first_one = 1 ∷ replicate 17 0

pub metric_of_zeros : likelihood one_strong (encoding zeros) ≡ pos 28
metric_of_zeros = cc

pub metric_of_first_one : likelihood one_strong (encoding first_one) ≡ pos 30
metric_of_first_one = cc

pub input : IsEncoderInput first_one
input = IsEncoderInput-tail (1 ∷ replicate 13 0) (omega arith) (AllBits-table (1 ∷ replicate 13 0) refl)

candidate : IsCandidate one_strong first_one
candidate = record { information = input; count = refl }

differs : first_one ≢ zeros
differs same = absurd (cc same)

beats : RanksAfter one_strong first_one zeros → ⊥
beats (inl less) = omega (arith, ints, less, metric_of_zeros, metric_of_first_one)
beats (inr tie) = omega (arith, ints, tie.0, metric_of_zeros, metric_of_first_one)

-- ## Beaten: It is not the most likely word, not the first of a ranking, and not the second of two whose first is yet another.

beaten_is_not_most_likely : IsMostLikely one_strong zeros → ⊥
beaten_is_not_most_likely h = beats (h.others first_one input refl differs)

beaten_is_not_reported : (c : TwoMostLikelyWords) → c.best ≡ zeros → AreTwoMostLikelyWords one_strong c → ⊥
beaten_is_not_reported c is h = beaten_is_not_most_likely (rw is at h.best)

not_there : Contains (zeros ∷ []) first_one → ⊥
not_there (zero, below, is) = absurd (cc is)
not_there (suc k, below, is) = absurd (omega (arith, below))

beaten_is_not_ranked : IsRanked one_strong (zeros ∷ []) → ⊥
beaten_is_not_ranked h = elim (h.others first_one candidate) [
  | inl there ↦ not_there there
  | inr after ↦ beats (All-head (RanksAfter one_strong first_one) zeros [] after)
]

beaten_is_not_second : (best : List ℕ) → first_one ≢ best → IsSecondMostLikely one_strong best zeros → ⊥
beaten_is_not_second best other h = beats (h.others first_one candidate other differs)

others_are_not_less_likely : OthersAreLessLikely one_strong zeros → ⊥
others_are_not_less_likely h = omega (arith, ints, h first_one input refl differs, metric_of_zeros, metric_of_first_one)

-- ## Margins: The margin of a beaten word is negative, and equal soft bits of 0 make a tie.

margin_of_zeros : (margin : ℤ) → IsLikelihoodMargin one_strong zeros margin → margin ≤ℤ negsuc 1
margin_of_zeros margin h = omega (arith, ints, h.least first_one candidate differs, metric_of_zeros, metric_of_first_one)

abbrev lost : List ℤ
lost = replicate 36 (pos 0)

tie : HasTiedWord lost zeros
tie = record { tied_word = first_one; candidate = record { information = input; count = refl }; differs = differs; equal = cc }
