-- The returned words, how they are stored, and the branches that hold all other words: the first word as bits, every other word as a
-- deviation from an earlier one.
use Rattle.std.specs.Prelude.{ℕ, ◌≡◌, ◌<◌, ◌≤◌, ◌+◌, ◌-◌, ◌*◌, ◌∷◌, ◌++◌}
use Rattle.std.specs.Prelude.{List, [], length, map, take, slice_index}
use Rattle.std.specs.Prelude.{slice_index_or, pos}
use Rattle.std.specs.List.{All}
use Rattle.weight_bound.specs.conv_code.Code.{encoding}
use Rattle.weight_bound.specs.conv_code.Likelihood.{likelihood}
use Rattle.list_decode.specs.Branches.{IsBranchOfReturnedWord, IsDeviation, class_of_branch, word_of_deviation}
use Rattle.list_decode.specs.Choices.{DeviatesFromReturnedWord, deviating_word}
use Rattle.list_decode.specs.Classes.{DeviatesAt, PartitionsUnreturnedWords}
use Rattle.list_decode.specs.Passes.{HasSoftBits, IsCompletePass, soft_bits_of_pass}
use Rattle.list_decode.specs.Ranking.{IsRanked, Ranking}
use Rattle.list_decode.specs.declared.branch.Deviation.{Deviation}
use Rattle.list_decode.specs.declared.branch.WordBranch.{WordBranch}
use Rattle.list_decode.specs.declared.pass.ViterbiPass.{ViterbiPass}
use Rattle.list_decode.specs.declared.words.RankedWords.{RankedWords}

-- a placeholder deviation, used when an index is out of range
abbrev pub placeholder_deviation : Deviation
placeholder_deviation = record { metric = pos 0; point = record { index = 0; state = 0; bit = 0 }; word_index = 0 }

-- a list of words, extended by one word for each deviation: an earlier word of the list with this deviation applied
abbrev pub with_deviating_words : (pass : ViterbiPass) (words : List (List ℕ)) (deviations : List Deviation) → List (List ℕ)
with_deviating_words pass us [] = us
with_deviating_words pass us (x ∷ xs) = with_deviating_words pass (us ++ deviating_word pass us x ∷ []) xs

-- the returned words, in order of rank
abbrev pub returned_words : RankedWords → List (List ℕ)
returned_words words = with_deviating_words words.pass (take words.count (take words.pass.bits words.first_word ∷ [])) (take
    (words.count - 1) words.deviations)

-- the soft bits and the returned words, as contracts of `ListDecoder` see them
abbrev pub ranking_of : RankedWords → Ranking
ranking_of words = record { soft = soft_bits_of_pass words.pass; returned = returned_words words }

-- the branches in use: one for the first word, and two more for each word after it
abbrev pub open_branches : RankedWords → List WordBranch
open_branches words = take (2 * words.count - 1) words.branches

-- `x` is a deviation from one of the returned words
abbrev pub DeviatesFromWords : (words : RankedWords) (x : Deviation) → Type 0
DeviatesFromWords words x = DeviatesFromReturnedWord words.pass (returned_words words) x

-- the word that a deviation from one of the returned words produces
abbrev pub word_made_by : (words : RankedWords) (x : Deviation) → List ℕ
word_made_by words x = deviating_word words.pass (returned_words words) x

-- word `index` of `words` is an earlier word with the deviation `x` applied
pub record IsMadeByDeviation (pass : ViterbiPass) (words : List (List ℕ)) (index : ℕ) (x : Deviation) : Type 0 where
  pub higher_ranked : x.word_index < index
  pub deviation : IsDeviation pass (slice_index_or words x.word_index []) x
  pub word_is : slice_index_or words index [] ≡ word_of_deviation pass (slice_index_or words x.word_index []) x

-- the backward pass has run; the returned words are ranked, and every word but the first is an earlier word with a deviation applied; the
-- branches partition the words not returned yet
pub record IsRanking (words : RankedWords) : Type 0 where
  pub pass : IsCompletePass words.pass
  pub some : 0 < words.count
  pub at_most : words.count ≤ 64
  pub count : length (returned_words words) ≡ words.count
  pub ranked : IsRanked (soft_bits_of_pass words.pass) (returned_words words)
  pub made_by_deviation : (k : ℕ) → k + 1 < words.count → IsMadeByDeviation words.pass (returned_words words) (k + 1)
      (slice_index_or words.deviations k placeholder_deviation)
  pub all_branches : All (IsBranchOfReturnedWord words.pass (returned_words words)) (open_branches words)
  pub partition : PartitionsUnreturnedWords (soft_bits_of_pass words.pass) (returned_words words) (map (class_of_branch
      (returned_words words)) (open_branches words))

-- the returned words are ranked; the backward pass and the branches may be missing as long as only the first word has been returned
pub record IsRankingSoFar (words : RankedWords) : Type 0 where
  pub has_soft_bits : HasSoftBits words.pass
  pub at_most : words.count ≤ 64
  pub count : length (returned_words words) ≡ words.count
  pub ranked : IsRanked (soft_bits_of_pass words.pass) (returned_words words)
  pub first_metric : words.count ≡ 1 → words.first_metric ≡ likelihood (soft_bits_of_pass words.pass) (encoding
      (take words.pass.bits words.first_word))
  pub later : 1 < words.count → IsRanking words

-- `chain` lists the numbers of the words that lead from word `at` to word `last`; each deviates from its predecessor
abbrev pub IsChainOfDeviations : (words : RankedWords) (chain : List ℕ) (at last : ℕ) → Type 0
IsChainOfDeviations words [] at i = at ≡ i
IsChainOfDeviations words (c ∷ cs) at i =
    (0 < c) × (c < words.count) × ((slice_index_or words.deviations (c - 1) placeholder_deviation).word_index ≡ at)
    × IsChainOfDeviations words cs c i

-- the word `deviating` and the deviation `deviation` deviate from the same returned word at the same position
pub record DeviatesAtSamePosition (words : List (List ℕ)) (deviating : List ℕ) (deviation : Deviation) : Type 0 where
  pub in_range : deviation.word_index < length words
  pub deviates : DeviatesAt (slice_index_or words deviation.word_index []) deviating deviation.point.index
  pub bit : deviation.point.bit ≡ slice_index (slice_index_or words deviation.word_index []) deviation.point.index
