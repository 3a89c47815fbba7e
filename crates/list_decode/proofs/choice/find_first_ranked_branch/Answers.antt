use Rattle.{
  std.proofs.Common.{arith, rules, ◌≡◌, ◌+◌, ◌++◌, ◌∷◌, [], ℕ, ℤ, negsuc, ◌<◌, List, Option, None, Some},
  std.proofs.{Common.{get_or, take, length, sym, subst, ◌∙◌, to_z, w32, FitsSigned}, lemmas.Int.{ints, to_z-of_z}},
  std.{proofs.lemmas.List.{length-take, take_all, take_more, Elements.All-take}, specs.Prelude.{IfSome, MatchOption, ◌≤ℤ◌}},
  list_decode.{
    specs.declared.{branch.WordBranch.WordBranch, choice.BranchChoice.BranchChoice, pass.ViterbiPass.ViterbiPass},
    specs.{Branches.IsBranchOfReturnedWord, Choices.IsFirstRankedBranch, Words.{open_branches, returned_words}},
    proofs.Choices.{None-not_some, first_ranked-lower, first_ranked-empty, first_ranked-deviation, w32-lowest, None-if_not_some},
    proofs.Choices.placeholder_branch,
    proofs.choice.find_first_ranked_branch.Goals.{then-branch-least+in-Some, then-branch-least+in_default, else-branch-least},
  },
}
use Rattle.list_decode.proofs.choice.find_first_ranked_branch.Goals as goal

-- `choice` is the first-ranked of the branches so far, or `None`; its path metric is at least `limit`, which is the least `i32` if `choice`
-- is `None`
record IsKnown (pass : ViterbiPass) (us : List (List ℕ)) (branches : List WordBranch) (choice : Option BranchChoice) (limit : ℤ) : Type
    0
  where
    pub first : IsFirstRankedBranch pass us branches choice
    pub least : IfSome choice (λ x. limit ≤ℤ x.deviation.metric)
    pub none : choice ≡ None → limit ≡ negsuc 2147483647

some_least : (pass : ViterbiPass) (us : List (List ℕ)) (branches : List WordBranch) (first : Option BranchChoice) (least : ℤ) →
    IsFirstRankedBranch pass us branches first → MatchOption first ⊥ (λ x. least ≤ℤ x.deviation.metric) →
    IsKnown pass us branches first least
some_least pass us branches None least first most = absurd most
some_least pass us branches (Some x) least first most =
    record { first = first; least = most; none = λ e. absurd (None-not_some (sym e)) }

pub loop-i-preserved : goal.loop-i-preserved
loop-i-preserved c =
    let pass = c.args.words.now.pass in
    let us = returned_words c.args.words.now in
    let branches = open_branches c.args.words.now in
    let all = c.requires.ranking.all_branches in
    let i = c.loop-i.i in
    let branch = get_or branches i placeholder_branch in
    let lt : i < length branches = let end = c.loop-i-test.true in omega arith in
    let more = take_more branches i placeholder_branch lt in
    let count : i ≡ length (take i branches) = omega (arith, length-take i branches) in
    let old = c.loop-i.invariant in
    let least : ℤ = to_z w32 c.loop-i.least-bits in
    let Known : Option BranchChoice → ℤ → Type 0 = IsKnown pass us (take i branches ++ branch ∷ []) in
    let known : Known c.if-branch-least.first (to_z w32 c.if-branch-least.least-bits) =
    elim c.if-branch-least.branch [
      | then-branch-least+in-Some w ↦
          let x = w.in-Some.deviation in
          let fits : FitsSigned w32 x.metric = search rules in
          subst (Known c.if-branch-least.first) (sym (w.least-is ∙ to_z-of_z w32 x.metric fits))
          (subst (λ first. Known first x.metric) (sym w.first-is)
          (some_least pass us (take i branches ++ branch ∷ []) w.higher_ranked-first.result x.metric
          (w.higher_ranked-first.ensures.first (take i branches) branch old.first w.in-Some.is count) w.higher_ranked-first.ensures.least))
      | then-branch-least+in_default w ↦
          subst (Known c.if-branch-least.first) (sym w.least-is) (subst (λ first. Known first least) (sym w.first-is) (record {
            first = first_ranked-empty pass us (take i branches) branch c.loop-i.first old.first
                (None-if_not_some branch.best w.in_default.not-Some);
            least = old.least;
            none = old.none;
          }))
      | else-branch-least w ↦
          let metric : ℤ = branch.metric in
          let fits : FitsSigned w32 metric = search rules in
          let same = to_z-of_z w32 metric fits in
          let below = w.if-branch-least.false in
          subst (Known c.if-branch-least.first) (sym w.least-is) (subst (λ first. Known first least) (sym w.first-is) (record {
            first = first_ranked-lower pass us (take i branches) branch c.loop-i.first least old.first old.deviation old.least
                (λ e. subst (λ l. l ≤ℤ metric) (sym (old.none e)) (w32-lowest metric fits)) (all i placeholder_branch lt)
                (omega (arith, ints));
            least = old.least;
            none = old.none;
          }))
    ] in
    let first = subst (λ bs. IsFirstRankedBranch pass us bs c.if-branch-least.first) (sym more) known.first in
    record {
      first = first;
      least = known.least;
      none = known.none;
      deviation = first_ranked-deviation pass us (take (i + 1) branches) c.if-branch-least.first
          (All-take (IsBranchOfReturnedWord pass us) (i + 1) branches all) first;
    }

pub returns : goal.returns
returns c =
    let words = c.args.words.now in
    let branches = open_branches words in
    let all : length branches ≡ c.loop-i.i = let end = c.loop-i-test.false in let i = c.loop-i.auto.i-end in omega arith in
    record {
      first = subst (λ bs. IsFirstRankedBranch words.pass (returned_words words) bs c.loop-i.first)
          (take_all c.loop-i.i branches (omega arith)) c.loop-i.invariant.first;
    }
