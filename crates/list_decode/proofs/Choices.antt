-- The choice of the branch whose most likely word ranks first.
use Rattle.{
  list_decode.{
    proofs.{Classes.deviates, Deviations.is_deviation, Rankings.RanksAfter-trans},
    specs.{Branches.{IsBranchOfReturnedWord, IsDeviation, word_of_deviation}, Choices.{DeviatesFromReturnedWord, IsFirstRankedBranch}},
    specs.{Choices.{IsNotOutrankedBy, deviating_word}, Classes.DeviatesAt, Passes.{IsCompletePass, soft_bits_of_pass}, Ranking.IsCandidate},
    specs.declared.{branch.{Deviation.Deviation, WordBranch.WordBranch}, choice.BranchChoice.BranchChoice, pass.ViterbiPass.ViterbiPass},
  },
  std.{
    proofs.{
      Common.{FitsSigned, List, None, Option, Some, [], arith, get_or, inl, inr, length, negsuc, pos, refl, subst, suc, sym, w32, zero},
      Common.{ℕ, ℤ, ◌++◌, ◌∷◌, ◌≡◌, ◌≢◌, ◌⊎◌},
      lemmas.{Int.ints, List.Elements.All-push, Option.{get_or_from_slice_get, slice_get_within}},
    },
    specs.{List.{All, slice_get}, Prelude.{IfSome, ◌<ℤ◌, ◌≤ℤ◌}},
  },
  trellis_decode.proofs.Lemmas.{HasTailBits-from_tail, IsEncoderInput-ends},
  weight_bound.specs.conv_code.Likelihood.RanksAfter,
}

-- ## Choices: The choice of the branch whose most likely word ranks first.

-- a branch without a word, used when an index is out of range
abbrev pub placeholder_branch : WordBranch
placeholder_branch = record { span = record { metric = pos 0; word_index = 0; from = 0; to = 0; state = 0 }; best = None; metric = pos 0 }

pub deviation-candidate : (pass : ViterbiPass) (u : List ℕ) (x : Deviation) → IsCompletePass pass →
    IsCandidate (soft_bits_of_pass pass) u → IsDeviation pass u x → IsCandidate (soft_bits_of_pass pass) (word_of_deviation pass u x)
deviation-candidate pass u x is candidate deviation =
    let n = candidate.count in
    let m = is.soft_bit_count in
    let p = is.row_count in
    let i = deviation.in_range in
    let made = is_deviation _ u _ _ _ 0 _ is.decisions (omega arith)
    (HasTailBits-from_tail u candidate.information.bits candidate.information.tail) deviation.follows (omega arith) (omega arith) in
    let c = made.count in
    record {
      information = IsEncoderInput-ends (word_of_deviation pass u x) (let five = is.at_least in omega arith) made.tail_bits;
      count = omega arith;
    }

pub deviating_word-candidate : (pass : ViterbiPass) (us : List (List ℕ)) (x : Deviation) → IsCompletePass pass →
    All (IsCandidate (soft_bits_of_pass pass)) us →
    DeviatesFromReturnedWord pass us x → IsCandidate (soft_bits_of_pass pass) (deviating_word pass us x)
deviating_word-candidate pass us x is all deviation =
    deviation-candidate _ _ x is (all _ [] deviation.in_range) deviation.deviation

pub deviation-deviates : (pass : ViterbiPass) (u : List ℕ) (x : Deviation) → IsCompletePass pass →
    IsCandidate (soft_bits_of_pass pass) u → IsDeviation pass u x → DeviatesAt u (word_of_deviation pass u x) x.point.index
deviation-deviates pass u x is candidate deviation =
    (is_deviation _ u _ _ _ 0 _ is.decisions (omega arith)
    (HasTailBits-from_tail u candidate.information.bits candidate.information.tail) deviation.follows (omega arith) (omega arith)).deviates

-- ---- each step of the loop compares the best word so far with the most likely word of the next branch

slice_get-last : (bs : List WordBranch) (b : WordBranch) (k : ℕ) → k ≡ length bs → slice_get (bs ++ b ∷ []) k ≡ Some b
slice_get-last [] b zero at = refl
slice_get-last (c ∷ bs) b (suc k) at = slice_get-last bs b k (omega arith)
slice_get-last bs b k at = absurd (omega arith)

pub None-not_some : {X : Type 0} {x : X} → None ≡ Some x → ⊥
None-not_some e = cc

slice_get-early : (bs cs : List WordBranch) (b : WordBranch) (k : ℕ) → slice_get bs k ≡ Some b → slice_get (bs ++ cs) k ≡ Some b
slice_get-early [] cs b k at = absurd cc
slice_get-early (c ∷ bs) cs b zero at = at
slice_get-early (c ∷ bs) cs b (suc k) at = slice_get-early bs cs b k at

pub branch_deviation : (pass : ViterbiPass) (us : List (List ℕ)) (branch : WordBranch) (x : Deviation) →
    IsBranchOfReturnedWord pass us branch → branch.best ≡ Some x → DeviatesFromReturnedWord pass us x
branch_deviation pass us branch x is at =
    let best = rw at at is.is_branch.best in
    record {
      in_range = rw best.1 is.in_range;
      deviation = subst (λ i. IsDeviation pass (get_or us i []) x) (sym best.1) best.0;
    }

module _ (pass : ViterbiPass) (us : List (List ℕ)) (branches : List WordBranch) (branch : WordBranch) where
  abbrev AtMost : Deviation → WordBranch → Type 0
  AtMost x b = IsNotOutrankedBy pass us x b.best

  pub first_ranked-empty : (first : Option BranchChoice) → IsFirstRankedBranch pass us branches first → branch.best ≡ None →
      IsFirstRankedBranch pass us (branches ++ branch ∷ []) first
  first_ranked-empty None all none = All-push (λ b. b.best ≡ None) branches branch all none
  first_ranked-empty (Some choice) old none = (
    (old.0.0, slice_get-early branches (branch ∷ []) _ choice.branch old.0.1, old.0.2),
    All-push (AtMost choice.deviation) branches branch old.1 (rw none tt),
  )

  pub first_ranked-new : (old new : BranchChoice) → IsFirstRankedBranch pass us branches (Some old) →
      branch.best ≡ Some new.deviation →
      new.branch ≡ length branches →
      RanksAfter (soft_bits_of_pass pass) (deviating_word pass us old.deviation) (deviating_word pass us new.deviation) →
      IsFirstRankedBranch pass us (branches ++ branch ∷ []) (Some new)
  first_ranked-new old new first best at before = (
    (branch, slice_get-last branches branch new.branch at, best),
    All-push (AtMost new.deviation) branches branch (λ k d lt. over _ (first.1 k d lt)) (rw best (inl refl)),
  ) where
    over : (best : Option Deviation) → IsNotOutrankedBy pass us old.deviation best → IsNotOutrankedBy pass us new.deviation best
    over None most = tt
    over (Some y) most = elim most [
      | inl same ↦ inr (rw same before)
      | inr behind ↦
          inr (RanksAfter-trans (soft_bits_of_pass pass) (deviating_word pass us y) (deviating_word pass us old.deviation)
          (deviating_word pass us new.deviation) behind before)
    ]

  pub first_ranked-old : (old new : BranchChoice) → IsFirstRankedBranch pass us branches (Some old) →
      branch.best ≡ Some new.deviation →
      (deviating_word pass us new.deviation ≡ deviating_word pass us old.deviation)
      ⊎ RanksAfter (soft_bits_of_pass pass) (deviating_word pass us new.deviation) (deviating_word pass us old.deviation) →
      IsFirstRankedBranch pass us (branches ++ branch ∷ []) (Some old)
  first_ranked-old old new first best behind = (
    (first.0.0, slice_get-early branches (branch ∷ []) _ old.branch first.0.1, first.0.2),
    All-push (AtMost old.deviation) branches branch first.1 (rw best behind),
  )

  pub first_ranked-lower : (first : Option BranchChoice) (least : ℤ) → IsFirstRankedBranch pass us branches first →
      IfSome first (λ choice. DeviatesFromReturnedWord pass us choice.deviation) →
      IfSome first (λ choice. least ≤ℤ choice.deviation.metric) → (first ≡ None → least ≤ℤ branch.metric) →
      IsBranchOfReturnedWord pass us branch → branch.metric <ℤ least →
      IsFirstRankedBranch pass us (branches ++ branch ∷ []) first
  first_ranked-lower None least old deviates most w32-lowest is less = absurd (let l = w32-lowest refl in omega (arith, ints))
  first_ranked-lower (Some choice) least old deviates most w32-lowest is less = go branch.best refl is.is_branch.metric
    where
      go : (best : Option Deviation) → branch.best ≡ best → IfSome best (λ best. branch.metric ≡ best.metric) →
          IsFirstRankedBranch pass us (branches ++ branch ∷ []) (Some choice)
      go None e same = first_ranked-empty (Some choice) old e
      go (Some x) e same =
          let a = (branch_deviation pass us branch x is e).deviation.value in
          let b = deviates.deviation.value in
          first_ranked-old choice (record { branch = 0; deviation = x }) old e (inr (inl (omega (arith, ints))))

pub w32-lowest : (x : ℤ) → FitsSigned w32 x → negsuc 2147483647 ≤ℤ x
w32-lowest (pos n) fits = omega (arith, ints)
w32-lowest (negsuc n) fits = let s = fits.sfits in omega (arith, ints)

-- ---- lemmas about the most likely word of a branch

pub All-slice_get : {X : Type 0} (P : X → Type 0) (xs : List X) (x : X) (k : ℕ) → All P xs → slice_get xs k ≡ Some x → P x
All-slice_get P xs x k all at = subst P (get_or_from_slice_get xs k x x at) (all k x (slice_get_within xs k x at))

pub first_ranked-deviation : (pass : ViterbiPass) (us : List (List ℕ)) (branches : List WordBranch) (first : Option BranchChoice) →
    All (IsBranchOfReturnedWord pass us) branches →
    IsFirstRankedBranch pass us branches first → IfSome first (λ choice. DeviatesFromReturnedWord pass us choice.deviation)
first_ranked-deviation pass us branches None all first = tt
first_ranked-deviation pass us branches (Some choice) all first =
    branch_deviation _ us first.0.0 _ (All-slice_get (IsBranchOfReturnedWord _ us) _ first.0.0 choice.branch all first.0.1) first.0.2

pub None-if_not_some : (best : Option Deviation) → ((x : Deviation) → best ≢ Some x) → best ≡ None
None-if_not_some None none = refl
None-if_not_some (Some x) none = absurd (none x refl)
