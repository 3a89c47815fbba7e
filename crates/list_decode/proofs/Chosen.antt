-- The next word of a ranking is the most likely word of all branches; the branches after it is returned.
use Rattle.{
  list_decode.{
    proofs.Choices.{branch_deviation, deviation-candidate, deviation-deviates, placeholder_branch},
    proofs.Classes.{DeviatesAt-earlier, DeviatesAt-unique, Disjoint},
    proofs.Classes.{IsPartWithout, classes-parted, deviations_after_index-index, parts, ranking-begins_with, without_position-free},
    proofs.{Deviations.{FollowsFrom, LosesAtLeast-in_class, follows-deviation}, Rankings.RanksAfter-trans, Spans.between_from},
    proofs.Spans.{between_to, is_between},
    specs.{
      Branches.{IsBranch, IsDeviationInSpan, IsBranchOfReturnedWord, IsDeviation, IsMostLikelyDeviation, class_of_branch},
      Branches.{deviations_in_span, word_of_deviation},
      Choices.{IsFirstRankedBranch, IsNotOutrankedBy, deviating_word},
      Classes.{DeviatesAt, DeviationClass, IsInClass, PartitionsUnreturnedWords, deviations_after_index, deviations_anywhere},
      DeviatingWords.{FollowsSurvivors, is_in_range},
      Partitioning.IsNextRankedWord,
      Passes.{IsCompletePass, decision_rows, losses_of_pass, soft_bits_of_pass},
      Ranking.{IsCandidate, IsRanked},
      declared.{branch.{Deviation.Deviation, WordBranch.WordBranch, WordSpan.WordSpan}, choice.BranchChoice.BranchChoice},
      declared.{partitioning.NextWord.NextWord, pass.ViterbiPass.ViterbiPass},
    },
  },
  std.{
    proofs.Common.{List, None, Option, Some, [], ap, append_assoc, ap₂, arith, drop, get_or, inl, inr, length, map, refl, set, subst},
    proofs.Common.{suc, sym, take, true, zero, ℕ, ℤ, ◌++◌, ◌+◌, ◌<◌, ◌∙◌, ◌∷◌, ◌≡◌, ◌≢◌, ◌≤◌},
    proofs.lemmas.{Bool.cases_lt, List.{get_or_append_left, get_or_push, length-append, map-append, set-get_or, set_split}},
    proofs.lemmas.List.Elements.{All-cons, All-drop, All-from_recursion, All-nil, All-push, All-set, All-tail, All-take},
    proofs.lemmas.Option.{get_or_from_slice_get, slice_get_within},
    specs.List.{All, Contains},
  },
  weight_bound.{proofs.conv_code.Lemmas.same_list, specs.conv_code.Likelihood.{IsMostLikely, RanksAfter}},
}

-- ## NextLists: The next word of a ranking is the most likely word of all branches.

pub below_best : (pass : ViterbiPass) (us : List (List ℕ)) (span : WordSpan) (x : Deviation) (w : List ℕ) (best : Option Deviation) →
    IsMostLikelyDeviation pass (get_or us span.word_index []) span best → IsNotOutrankedBy pass us x best →
    IsCandidate (soft_bits_of_pass pass) w →
    IsInClass (deviations_in_span (get_or us span.word_index []) span) w → w ≢ deviating_word pass us x →
    RanksAfter (soft_bits_of_pass pass) w (deviating_word pass us x)
below_best pass us span x w None none most is at ne = absurd (none w is at)
below_best pass us span x w (Some y) best most is at ne =
    let s = soft_bits_of_pass pass in
    let here =
    ap (λ i. word_of_deviation pass (get_or us i []) y) (sym best.1) in
    elim (same_list w (deviating_word pass us y)) [
      | inl same ↦ elim most [
        | inl equal ↦ absurd (ne (same ∙ equal))
        | inr after ↦ rw same after
      ]
      | inr other ↦
          let after = subst (RanksAfter s w) here (best.4 w is at (λ e. other (e ∙ here))) in
          elim most [
            | inl equal ↦ subst (RanksAfter s w) equal after
            | inr most' ↦ RanksAfter-trans s w (deviating_word pass us y) (deviating_word pass us x) after most'
          ]
    ]

-- no candidate deviates from another candidate in the last four positions, since tail bits are 0
before_the_last : (pass : ViterbiPass) (c : DeviationClass) (from : ℕ) (w : List ℕ) → IsCompletePass pass →
    IsCandidate (soft_bits_of_pass pass) c.word →
    FollowsSurvivors from c.word (decision_rows pass) 0 → ((k : ℕ) → c.may_deviate_at k ≡ true → from ≤ k) →
    IsCandidate (soft_bits_of_pass pass) w →
    (at : IsInClass c w) → at.index + 4 < pass.bits
before_the_last pass c from w is candidate follows later is_w at =
    let indices = is.row_count in
    let followed : FollowsFrom _ _ _ c _ =
    record {
      decisions = is.decisions;
      pairs = omega arith;
      candidate = candidate;
      follows = follows;
      later =
          later;
    } in
    let short = (LosesAtLeast-in_class (soft_bits_of_pass pass) (decision_rows pass) (losses_of_pass pass) c from followed w is_w
    at).in_range in
    omega arith

pub ranking-begins : (pass : ViterbiPass) (u : List ℕ) (span : WordSpan) → IsCompletePass pass →
    IsMostLikely (soft_bits_of_pass pass) u →
    FollowsSurvivors 0 u (decision_rows pass) 0 → span.from ≡ 0 → span.to + 4 ≡ pass.bits →
    IsRanked (soft_bits_of_pass pass) (u ∷ []) ×
    PartitionsUnreturnedWords (soft_bits_of_pass pass) (u ∷ []) (deviations_in_span u span ∷ [])
ranking-begins pass u span is best follows from to =
    ranking-begins_with (soft_bits_of_pass pass) u (is_in_range span.from span.to) best (λ w index is_w at.
    let candidate : IsCandidate (soft_bits_of_pass pass) u = record { information = best.information; count = best.count } in
    let short = before_the_last pass (deviations_anywhere u) 0 w is candidate follows (λ k free. omega arith) is_w
    (record { index = index; deviates = at; allowed = refl }) in
    is_between span.from span.to index (omega arith) (omega arith))

module _ (pass : ViterbiPass) (us : List (List ℕ)) (u : List ℕ) (span : WordSpan) (x : Deviation) (is : IsCompletePass pass)
    (candidate : IsCandidate (soft_bits_of_pass pass) u)
    (is_x : IsDeviation pass u x) (v_is : IsCandidate (soft_bits_of_pass pass) (word_of_deviation pass u x))
    (from : span.from ≤ x.point.index) (to : x.point.index < span.to) where
  abbrev index : ℕ
  index = x.point.index

  abbrev v : List ℕ
  v = word_of_deviation pass u x

  left : DeviatesAt u v index
  left = deviation-deviates pass u x is candidate is_x

  module _ (before after : List DeviationClass) (first behind_v rest : WordSpan) (ranked : IsRanked (soft_bits_of_pass pass) us)
      (covers : PartitionsUnreturnedWords (soft_bits_of_pass pass) us (before ++ deviations_in_span u span ∷ after))
      (best : (e : DeviationClass) (w : List ℕ) → Contains (before ++ deviations_in_span u span ∷ after) e →
      IsCandidate (soft_bits_of_pass pass) w → IsInClass e w →
      w ≢ word_of_deviation pass u x → RanksAfter (soft_bits_of_pass pass) w (word_of_deviation pass u x))
      (first_from : first.from ≡ span.from) (first_to : first.to ≡ x.point.index) (behind_from : behind_v.from ≡
      x.point.index + 1)
      (behind_to : behind_v.to + 4 ≡ pass.bits) (rest_from : rest.from ≡ x.point.index + 1) (rest_to : rest.to ≡ span.to) where
    abbrev s : List ℤ
    s = soft_bits_of_pass pass

    abbrev c : DeviationClass
    c = deviations_in_span u span

    abbrev a : DeviationClass
    a = deviations_in_span u first

    abbrev new_class : DeviationClass
    new_class = deviations_in_span v behind_v

    abbrev r : DeviationClass
    r = deviations_in_span u rest

    in_span : (t : List ℕ) (part : WordSpan) (w : List ℕ) (k : ℕ) → DeviatesAt t w k → part.from ≤ k → k < part.to →
        IsInClass (deviations_in_span t part) w
    in_span t part w k at f l = record { index = k; deviates = at; allowed = is_between part.from part.to k f l }

    -- the words of the three parts deviate from u before the position where v deviates, after it, or at it
    in_first : (w : List ℕ) → IsInClass a w → (k : ℕ) × DeviatesAt u w k × (span.from ≤ k) × (k < index)
    in_first w at =
        let f = between_from _ _ at.index at.allowed in
        let t = between_to _ _ at.index at.allowed in
        (at.index, at.deviates, omega arith, omega arith)

    in_rest : (w : List ℕ) → IsInClass r w → (k : ℕ) × DeviatesAt u w k × (index < k) × (k < span.to)
    in_rest w at =
        let f = between_from _ _ at.index at.allowed in
        let t = between_to _ _ at.index at.allowed in
        (at.index, at.deviates, omega arith, omega arith)

    in_behind : (w : List ℕ) → IsInClass new_class w → DeviatesAt u w index
    in_behind w at =
        let f = between_from _ _ at.index at.allowed in
        DeviatesAt-earlier u v w index at.index (let n = v_is.count in let m = candidate.count in omega arith) left at.deviates
        (omega arith)

    is_first : IsPartWithout s c v a
    is_first = record {
      candidate = candidate;
      part = λ w at. let h = in_first w at in in_span u span w h.0 h.1 h.2 (omega arith);
      without = λ at. let h = in_first v at in let same = DeviatesAt-unique u v _ _ h.1 left in omega arith;
    }

    is_rest : IsPartWithout s c v r
    is_rest = record {
      candidate = candidate;
      part = λ w at. let h = in_rest w at in in_span u span w h.0 h.1 (omega arith) h.3;
      without = λ at. let h = in_rest v at in let same = DeviatesAt-unique u v _ _ h.1 left in omega arith;
    }

    is_behind : IsPartWithout s c v new_class
    is_behind = record {
      candidate = v_is;
      part = λ w at. in_span u span w index (in_behind w at) from to;
      without = λ at. at.deviates.differs refl;
    }

    first_behind : Disjoint a new_class
    first_behind w at at' = let h = in_first w at in let same = DeviatesAt-unique u w _ _ h.1 (in_behind w at') in omega arith

    first_rest : Disjoint a r
    first_rest w at at' =
        let h = in_first w at in
        let g = in_rest w at' in
        let same = DeviatesAt-unique u w _ _ h.1 g.1 in omega arith

    behind_rest : Disjoint new_class r
    behind_rest w at at' = let g = in_rest w at' in let same = DeviatesAt-unique u w _ _ (in_behind w at) g.1 in omega arith

    in_one : (w : List ℕ) → IsCandidate s w → IsInClass c w → w ≢ v
        → (p : DeviationClass) × Contains (a ∷ new_class ∷ r ∷ []) p × IsInClass p w
    in_one w is_w at ne = elim (parts s c v index candidate v_is left (is_between span.from span.to index from to) w is_w at ne) [
      | inl still ↦
          let open_at = without_position-free c index still.index still.allowed in
          let other = open_at.0 in
          let f = between_from span.from span.to still.index open_at.1 in
          let t = between_to span.from span.to still.index open_at.1 in
          elim (cases_lt still.index index) [
            | inl early ↦ (a, (0, omega arith, refl), in_span u first w still.index still.deviates (omega arith) (omega arith))
            | inr late ↦ (r, (2, omega arith, refl), in_span u rest w still.index still.deviates (omega arith) (omega arith))
          ]
      | inr now ↦
          let later = deviations_after_index-index v index now.index now.allowed in
          let follows : FollowsSurvivors (index + 1) v (decision_rows pass) 0 = follows-deviation u _ 0 _ (omega arith) (omega arith) in
          let short = before_the_last pass (deviations_after_index v index) (index + 1) w is v_is follows
          (λ k free. let l = deviations_after_index-index v index k free in omega arith) is_w now in
          (new_class, (1, omega arith, refl), in_span v behind_v w now.index now.deviates (omega arith) (omega arith))
    ]

    -- three spans replace the span: the positions of u before and after the deviation, and those of the new word after it
    pub ranking-goes_on : IsRanked (soft_bits_of_pass pass) (us ++ word_of_deviation pass u x ∷ []) ×
        PartitionsUnreturnedWords (soft_bits_of_pass pass) (us ++ word_of_deviation pass u x ∷ [])
        (((before ++ deviations_in_span u first ∷ after) ++ deviations_in_span
        (word_of_deviation pass u x) behind_v ∷ []) ++ deviations_in_span u rest ∷ [])
    ranking-goes_on = rw append_assoc (classes-parted s us before after c v ranked covers v_is (in_span u span v index left from to) best a
        (new_class ∷ r ∷ [])
        (All-from_recursion (IsPartWithout s c v) (a ∷ new_class ∷ r ∷ []) (is_first, (is_behind, (is_rest, tt)))) (
          All-from_recursion (Disjoint a) (new_class ∷ r ∷ []) (first_behind, (first_rest, tt)),
          (All-cons (Disjoint new_class) r [] behind_rest (All-nil _), (All-nil _, tt)),
        ) in_one)

-- ## Chosen: The branch whose most likely word is the next word, and the branches after this word is returned.

-- ---- lemmas about the branch whose most likely word is the next word

module _ (pass : ViterbiPass) (us : List (List ℕ)) (branches : List WordBranch) (choice : BranchChoice) (lists : All (IsCandidate
    (soft_bits_of_pass pass)) us)
    (all : All (IsBranchOfReturnedWord pass us) branches) (first : IsFirstRankedBranch pass us branches (Some choice)) where
  pub within : choice.branch < length branches
  within = slice_get_within branches choice.branch first.0.0 first.0.1

  pub chosen_branch : IsBranchOfReturnedWord pass us (get_or branches choice.branch placeholder_branch)
  chosen_branch = all _ _ within

  best_is : (get_or branches choice.branch placeholder_branch).best ≡ Some choice.deviation
  best_is = ap (λ (b : WordBranch). b.best) (get_or_from_slice_get branches choice.branch first.0.0 placeholder_branch first.0.1)
      ∙ first.0.2

  best_chosen : IsMostLikelyDeviation pass (get_or us (get_or branches choice.branch placeholder_branch).span.word_index [])
      (get_or branches choice.branch placeholder_branch).span (Some choice.deviation)
  best_chosen = rw best_is at chosen_branch.is_branch.best

  pub chosen : IsDeviationInSpan pass (get_or us (get_or branches choice.branch placeholder_branch).span.word_index [])
      (get_or branches choice.branch placeholder_branch).span choice.deviation
  chosen = record {
    candidate = lists _ [] chosen_branch.in_range;
    is_span = chosen_branch.is_branch.span;
    deviation = best_chosen.0;
    from = best_chosen.2;
    to = best_chosen.3;
  }

-- ---- lemmas about the branches after one more word is returned

get_or-push : (us : List (List ℕ)) (u : List ℕ) (i : ℕ) → i < length us → get_or us i [] ≡ get_or (us ++ u ∷ []) i []
get_or-push us u i lt = sym (get_or_append_left us _ [] i lt)

branch-push : (pass : ViterbiPass) (us : List (List ℕ)) (u : List ℕ) (b : WordBranch) → IsBranchOfReturnedWord pass us b →
    IsBranchOfReturnedWord pass (us ++ u ∷ []) b
branch-push pass us u b is = record {
  in_range = omega (arith, length-append us (u ∷ []));
  is_branch = rw (← get_or-push us u _ is.in_range) is.is_branch;
}

classes-push : (pass : ViterbiPass) (us : List (List ℕ)) (u : List ℕ) (bs : List WordBranch) →
    All (IsBranchOfReturnedWord pass us) bs → map (class_of_branch us) bs ≡ map (class_of_branch (us ++ u ∷ [])) bs
classes-push pass us u [] all = refl
classes-push pass us u (b ∷ bs) all =
    ap₂ (λ c cs. c ∷ cs) (ap (λ chosen_word. deviations_in_span chosen_word b.span) (get_or-push us u _ (all 0 b
    (omega arith)).in_range)) (classes-push pass us u bs (All-tail (IsBranchOfReturnedWord pass us) b bs all))

pub Contains-class : (us : List (List ℕ)) (bs : List WordBranch) (P : WordBranch → Type 0) (e : DeviationClass) → All P bs →
    Contains (map (class_of_branch us) bs) e → (b : WordBranch) × P b × (class_of_branch us b ≡ e)
Contains-class us [] P e all found = absurd (omega arith)
Contains-class us (b ∷ bs) P e all (zero, lt, is) = (b, all 0 b (omega arith), is)
Contains-class us (b ∷ bs) P e all (suc k, lt, is) = Contains-class us bs P e (All-tail P b bs all) (k, omega arith, is)

module _ (pass : ViterbiPass) (us : List (List ℕ)) (branches : List WordBranch) (choice : BranchChoice) (is : IsCompletePass pass)
    (all : All (IsBranchOfReturnedWord pass us) branches) (first : IsFirstRankedBranch pass us branches (Some choice))
    (ranked : IsRanked (soft_bits_of_pass pass) us)
    (covers : PartitionsUnreturnedWords (soft_bits_of_pass pass) us (map (class_of_branch us) branches)) where
  lists : All (IsCandidate (soft_bits_of_pass pass)) us
  lists = ranked.ranked_words_are_candidates

  abbrev i : ℕ
  i = choice.branch

  abbrev b : WordBranch
  b = get_or branches choice.branch placeholder_branch

  abbrev u : List ℕ
  u = get_or us (get_or branches choice.branch placeholder_branch).span.word_index []

  abbrev chosen_word : List ℕ
  chosen_word = word_of_deviation pass (get_or us (get_or branches choice.branch placeholder_branch).span.word_index []) choice.deviation

  has : IsDeviationInSpan pass u b.span choice.deviation
  has = chosen _ us _ _ lists all first

  chosen_here : IsBranchOfReturnedWord pass us b
  chosen_here = chosen_branch _ us _ choice lists all first

  best_here : b.best ≡ Some choice.deviation
  best_here = best_is _ us _ _ lists all first

  inside : i < length branches
  inside = within pass us branches choice lists all first

  u_within : b.span.word_index < length us
  u_within = (chosen_branch _ us _ choice lists all first).in_range

  v_is : IsCandidate (soft_bits_of_pass pass) chosen_word
  v_is = deviation-candidate _ u choice.deviation is has.candidate has.deviation

  split : map (class_of_branch us) branches ≡ map (class_of_branch us) (take i branches) ++ class_of_branch us b
      ∷ map (class_of_branch us)
      (drop (suc i) branches)
  split = ap (map (class_of_branch us)) (sym (set-get_or _ i _) ∙ set_split branches i b inside)
      ∙ map-append (class_of_branch us) (take i branches) (b ∷ drop (suc i) branches)

  best : (e : DeviationClass) (w : List ℕ) → Contains (map (class_of_branch us) branches) e →
      IsCandidate (soft_bits_of_pass pass) w → IsInClass e w → w ≢ chosen_word → RanksAfter (soft_bits_of_pass pass) w chosen_word
  best e w member is_w in_class ne =
      let here = ap (λ k. word_of_deviation pass (get_or us k []) choice.deviation) (best_chosen _ us _ _ lists all first).1 in
      let found = Contains-class us branches (λ b. IsBranchOfReturnedWord pass us b × IsNotOutrankedBy pass us choice.deviation b.best) e
      (λ k d lt. (all k d lt, first.1 k d lt)) member in
      rw (← here)
      (below_best pass us found.0.span choice.deviation w found.0.best found.1.0.is_branch.best found.1.1 is_w
      (rw found.2 in_class) (λ e. ne (e ∙ here)))

  module _ (next : NextWord) (at : next.branch ≡ i) (left : next.deviation ≡ choice.deviation)
      (before : IsBranch pass u next.parts.branch_before) (behind_v : IsBranch pass chosen_word next.parts.branch_of_new_word)
      (after : IsBranch pass u next.parts.branch_after)
      (before_span : (next.parts.branch_before.span.word_index ≡ b.span.word_index)
      × (next.parts.branch_before.span.from ≡ b.span.from)
      × (next.parts.branch_before.span.to ≡ choice.deviation.point.index))
      (behind_span : (next.parts.branch_of_new_word.span.word_index ≡ length us)
      × (next.parts.branch_of_new_word.span.from ≡ choice.deviation.point.index + 1)
      ×
      (next.parts.branch_of_new_word.span.to + 4 ≡ pass.bits))
      (after_span : (next.parts.branch_after.span.word_index ≡ b.span.word_index)
      × (next.parts.branch_after.span.from ≡ choice.deviation.point.index + 1)
      × (next.parts.branch_after.span.to ≡ b.span.to)) where
    abbrev first_part : WordBranch
    first_part = next.parts.branch_before

    abbrev new_part : WordBranch
    new_part = next.parts.branch_of_new_word

    abbrev last_part : WordBranch
    last_part = next.parts.branch_after

    abbrev us' : List (List ℕ)
    us' = us ++ chosen_word ∷ []

    abbrev f : WordBranch → DeviationClass
    f = class_of_branch (us ++ chosen_word ∷ [])

    same_u : (k : ℕ) → k ≡ b.span.word_index → get_or us' k [] ≡ u
    same_u k same = ap (λ k. get_or us' k []) same ∙ sym (get_or-push us chosen_word b.span.word_index u_within)

    same_v : (k : ℕ) → k ≡ length us → get_or us' k [] ≡ chosen_word
    same_v k same = get_or_push us chosen_word [] k (sym same)

    old_branch : (p : WordBranch) → p.span.word_index ≡ b.span.word_index → IsBranch pass u p → IsBranchOfReturnedWord pass us' p
    old_branch p same is_p = record {
      in_range = let k = u_within in omega (arith, length-append us (chosen_word ∷ []));
      is_branch = rw (same_u p.span.word_index same) is_p;
    }

    new_branch : IsBranchOfReturnedWord pass us' new_part
    new_branch = record {
      in_range = let k = behind_span.0 in omega (arith, length-append us (chosen_word ∷ []));
      is_branch = rw (same_v new_part.span.word_index behind_span.0) behind_v;
    }

    all_branches : All (IsBranchOfReturnedWord pass us')
        ((set branches i first_part ++ new_part ∷ []) ++ last_part ∷ [])
    all_branches = All-push (IsBranchOfReturnedWord pass us') (set branches i first_part ++ new_part ∷ []) last_part
        (All-push (IsBranchOfReturnedWord pass us') (set branches i first_part) new_part
        (All-set (IsBranchOfReturnedWord pass us') branches i first_part
        (old_branch first_part before_span.0 before)
        (λ k d lt. branch-push pass us chosen_word (get_or branches k d) (all k d lt))) new_branch)
        (old_branch last_part after_span.0 after)

    classes : ((map (class_of_branch us) (take i branches) ++ deviations_in_span u first_part.span ∷ map
        (class_of_branch us)
        (drop (suc i) branches)) ++ deviations_in_span chosen_word new_part.span ∷ []) ++ deviations_in_span u
        last_part.span
        ∷ [] ≡
        map f ((set branches i first_part ++ new_part ∷ []) ++ last_part ∷ [])
    classes =
        let early = classes-push pass us chosen_word (take i branches) (All-take (IsBranchOfReturnedWord pass us) i branches all) in
        let late = classes-push pass us chosen_word (drop (suc i) branches) (All-drop (IsBranchOfReturnedWord pass us) (suc i) branches all)
        in
        let one = ap (λ u. deviations_in_span u first_part.span)
        (sym (same_u first_part.span.word_index before_span.0)) in
        let two = ap (λ u. deviations_in_span u new_part.span)
        (sym (same_v new_part.span.word_index behind_span.0)) in
        let three = ap (λ u. deviations_in_span u last_part.span)
        (sym (same_u last_part.span.word_index after_span.0)) in
        rw (set_split branches i first_part inside) (simp map-append (cc (early, late, one, two, three)))

    went : IsRanked (soft_bits_of_pass pass) us' × PartitionsUnreturnedWords (soft_bits_of_pass pass) us'
        (((map (class_of_branch us) (take i branches) ++ deviations_in_span u first_part.span ∷ map (class_of_branch us)
        (drop (suc i) branches)) ++ deviations_in_span chosen_word new_part.span ∷ []) ++ deviations_in_span u last_part.span ∷ [])
    went = ranking-goes_on pass us u b.span choice.deviation is has.candidate has.deviation v_is has.from has.to
        (map (class_of_branch us) (take i branches)) (map (class_of_branch us) (drop (suc i) branches))
        first_part.span new_part.span last_part.span ranked (rw split at covers) (λ e w member. best e w (rw split member))
        before_span.1 before_span.2 behind_span.1 behind_span.2 after_span.1 after_span.2

    is_next_deviation : IsNextRankedWord pass us branches chosen_word next
    is_next_deviation = record {
      in_range = rw at inside;
      value = ap (λ (x : Deviation). x.metric) left ∙ has.deviation.value;
      deviation = rw left (branch_deviation pass us b choice.deviation chosen_here best_here);
      word_is = rw (left, (best_chosen pass us branches choice lists all first).1) refl;
      all_branches = rw at all_branches;
      ranked = went.0;
      partition = rw (at, ← classes) went.1;
    }

    pub is_next : (written : List ℕ) → written ≡ chosen_word → IsNextRankedWord pass us branches written next
    is_next written same = rw same is_next_deviation
