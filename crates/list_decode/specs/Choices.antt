-- The selection of the branch whose most likely word ranks first.
use Rattle.std.specs.Prelude.{ℕ, ◌≡◌, ◌⊎◌, ◌<◌, pos}
use Rattle.std.specs.Prelude.{Bool, true, false, List, [], length, slice_get, slice_index_or, Option, Some, None}
use Rattle.std.specs.List.{All}
use Rattle.weight_bound.specs.conv_code.Likelihood.{RanksAfter, IsLexicographicallyBefore}
use Rattle.list_decode.specs.Branches.{IsDeviation, word_of_deviation}
use Rattle.list_decode.specs.Passes.{soft_bits_of_pass}
use Rattle.list_decode.specs.declared.branch.WordBranch.{WordBranch}
use Rattle.list_decode.specs.declared.branch.Deviation.{Deviation}
use Rattle.list_decode.specs.declared.choice.BranchChoice.{BranchChoice}
use Rattle.list_decode.specs.declared.pass.ViterbiPass.{ViterbiPass}

-- the returned word from which a deviation starts, with the deviation applied
abbrev pub deviating_word : (pass : ViterbiPass) (returned : List (List ℕ)) (deviation : Deviation) → List ℕ
deviating_word pass us x = word_of_deviation pass (slice_index_or us x.word_index []) x

-- `x` is a deviation from one of the returned words `returned`
pub record DeviatesFromReturnedWord (pass : ViterbiPass) (returned : List (List ℕ)) (x : Deviation) : Type 0 where
  pub in_range : x.word_index < length returned
  pub deviation : IsDeviation pass (slice_index_or returned x.word_index []) x

-- the word that `best` produces, if there is one, equals the word that `deviation` produces or ranks after it
abbrev pub IsNotOutrankedBy : (pass : ViterbiPass) (returned : List (List ℕ)) (deviation : Deviation) (best : Option Deviation) → Type 0
IsNotOutrankedBy pass us x None = Unit {0}
IsNotOutrankedBy pass us x (Some y) = (deviating_word pass us y ≡ deviating_word pass us x) ⊎
    RanksAfter (soft_bits_of_pass pass) (deviating_word pass us y) (deviating_word pass us x)

-- `answer` is true if and only if `first` comes before `second` in lexicographic order
abbrev pub DecidesLexicographicOrder : (first second : List ℕ) (answer : Bool) → Type 0
DecidesLexicographicOrder u v true = IsLexicographicallyBefore u v
DecidesLexicographicOrder u v false = (u ≡ v) ⊎ IsLexicographicallyBefore v u

-- `choice` is the branch whose most likely word ranks first, or `None` if no branch has a word
abbrev pub IsFirstRankedBranch : (pass : ViterbiPass) (returned : List (List ℕ)) (branches : List WordBranch)
    (choice : Option BranchChoice) → Type 0
IsFirstRankedBranch pass us branches None = All (λ branch. branch.best ≡ None) branches
IsFirstRankedBranch pass us branches (Some choice) =
    ((branch : WordBranch) × (slice_get branches choice.branch ≡ Some branch) × (branch.best ≡ Some choice.deviation)) ×
    All (λ branch. IsNotOutrankedBy pass us choice.deviation branch.best) branches
