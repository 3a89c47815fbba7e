-- The next word in the ranking, and the branches after it has been returned.
use Rattle.std.specs.Prelude.{ℕ, ◌≡◌, ◌<◌, List, [], ◌∷◌, ◌++◌, length, map, slice_set, None}
use Rattle.std.specs.List.{All}
use Rattle.weight_bound.specs.conv_code.Code.{encoding}
use Rattle.weight_bound.specs.conv_code.Likelihood.{likelihood}
use Rattle.list_decode.specs.Branches.{IsBranchOfReturnedWord, class_of_branch}
use Rattle.list_decode.specs.Choices.{DeviatesFromReturnedWord, deviating_word}
use Rattle.list_decode.specs.Classes.{PartitionsUnreturnedWords}
use Rattle.list_decode.specs.Passes.{soft_bits_of_pass}
use Rattle.list_decode.specs.Ranking.{IsRanked}
use Rattle.list_decode.specs.declared.branch.WordBranch.{WordBranch}
use Rattle.list_decode.specs.declared.partitioning.NextWord.{NextWord}
use Rattle.list_decode.specs.declared.pass.ViterbiPass.{ViterbiPass}

-- no branch has a word left
abbrev pub NoBranchHasUnreturnedWord : List WordBranch → Type 0
NoBranchHasUnreturnedWord branches = All (λ branch. branch.best ≡ None) branches

-- the branches after the next word has been returned: one branch is replaced, and two are added
abbrev pub branches_after_word : (branches : List WordBranch) (next : NextWord) → List WordBranch
branches_after_word branches next =
    (slice_set branches next.branch next.parts.branch_before ++ next.parts.branch_of_new_word ∷ []) ++ next.parts.branch_after ∷ []

-- `word` is the next word in the ranking after the words `returned`, and `next` describes it
pub record IsNextRankedWord (pass : ViterbiPass) (returned : List (List ℕ)) (branches : List WordBranch) (word : List ℕ) (next :
    NextWord) : Type
    0 where
  pub in_range : next.branch < length branches
  pub value : next.deviation.metric ≡ likelihood (soft_bits_of_pass pass) (encoding word)
  pub deviation : DeviatesFromReturnedWord pass returned next.deviation
  pub word_is : word ≡ deviating_word pass returned next.deviation
  pub ranked : IsRanked (soft_bits_of_pass pass) (returned ++ word ∷ [])
  pub all_branches : All (IsBranchOfReturnedWord pass (returned ++ word ∷ [])) (branches_after_word branches next)
  pub partition : PartitionsUnreturnedWords (soft_bits_of_pass pass) (returned ++ word ∷ [])
      (map (class_of_branch (returned ++ word ∷ [])) (branches_after_word branches next))
