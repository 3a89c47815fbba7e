-- How returned words are stored, and the invariant of the returned words after one more is returned.
use Rattle.{
  list_decode.{
    proofs.{
      Choices.deviation-deviates,
      Chosen.{Contains-class, ranking-begins, within},
      Classes.{DeviatesAt-earlier, ends_ranked, lex_before-fork, lex_behind-fork},
      DeviatingWords.{order-cases, survivor-best},
      Rankings.{IsRanked-not_repeated, most_likely_is_ranked},
    },
    specs.{
      Branches.{IsBranch, IsBranchOfReturnedWord, IsDeviation, IsMostLikelyDeviation, IsSpanOfWord, class_of_branch, deviations_in_span},
      Branches.word_of_deviation,
      Choices.{DecidesLexicographicOrder, DeviatesFromReturnedWord, deviating_word},
      Classes.{DeviatesAt, IsInClass, PartitionsUnreturnedWords},
      Partitioning.{IsNextRankedWord, NoBranchHasUnreturnedWord, branches_after_word},
      Passes.{HasSoftBits, IsCompletePass, decision_rows, losses_of_pass, soft_bits_of_pass},
      Ranking.{IsCandidate, IsRanked, IsRankingDone},
      Words.{DeviatesAtSamePosition, DeviatesFromWords, IsChainOfDeviations, IsMadeByDeviation, IsRanking, IsRankingSoFar, open_branches},
      Words.{placeholder_deviation, ranking_of, returned_words, with_deviating_words, word_made_by},
      declared.{branch.{Deviation.Deviation, WordBranch.WordBranch, WordSpan.WordSpan}, partitioning.NextWord.NextWord},
      declared.{pass.ViterbiPass.ViterbiPass, words.RankedWords.RankedWords},
    },
  },
  std.{
    proofs.Common.{List, None, Option, Some, [], add-one, ap, ap₂, arith, drop, drop-cons, get_or, inl, inr, length, map, refl, set},
    proofs.Common.{subst, sym, take, ℕ, ℤ, ◌*◌, ◌++◌, ◌+◌, ◌-◌, ◌<◌, ◌∙◌, ◌∷◌, ◌≡◌},
    proofs.{Math.Seq.take-set-lt, lemmas.{Bool.cases_lt, Grind.{get_or-set_at, take-set_at}, List.{drop-set-lt, get_or-set_other}}},
    proofs.lemmas.List.{get_or-set_same, get_or_append_left, get_or_push, length-append, length-set, length-take, take_all, take_more_set},
    proofs.lemmas.List.Elements.{All-cons, All-contains, All-nil, Contains-push},
    specs.{List.{All, Contains}, Prelude.{IfSome, MatchOption, nat_eq}},
  },
  trellis_decode.{proofs.Lemmas.{IsMostLikely-best, length-traceback}, specs.Trellis.traceback},
  weight_bound.{
    proofs.conv_code.Lemmas.{IsMostLikely-only, bit_at-most_1},
    specs.conv_code.{Code.{IsEncoderInput, encoding}, Likelihood.{IsMostLikely, likelihood}},
  },
}

-- ## Trees: How returned words are stored: each word but the first is a deviation from an earlier word.

-- ---- lemmas about the list of the returned words

-- the words after one more is returned, which the deviation `x` produces
abbrev pub one_more_word : (words : RankedWords) (x : Deviation) (branches : List WordBranch) → RankedWords
one_more_word words x branches = record {
  pass = words.pass;
  first_word = words.first_word;
  first_metric = words.first_metric;
  deviations = set words.deviations (words.count - 1) x;
  count = words.count + 1;
  branches = branches;
}

with_deviating_words-push : (pass : ViterbiPass) (us : List (List ℕ)) (xs : List Deviation) (x : Deviation) →
    with_deviating_words pass us (xs ++ x ∷ []) ≡ with_deviating_words pass us xs ++ deviating_word pass
    (with_deviating_words pass us xs) x ∷ []
with_deviating_words-push pass us [] x = refl
with_deviating_words-push pass us (y ∷ xs) x = with_deviating_words-push pass (us ++ deviating_word pass us y ∷ []) xs x

with_deviating_words-first : (pass : ViterbiPass) (us : List (List ℕ)) (xs : List Deviation) → 0 < length us →
    get_or (with_deviating_words pass us xs) 0 [] ≡ get_or us 0 []
with_deviating_words-first pass us [] some = refl
with_deviating_words-first pass us (x ∷ xs) some =
    with_deviating_words-first pass (us ++ deviating_word pass us x ∷ []) xs (omega (
      arith,
      length-append us (deviating_word pass us x ∷ []),
    ))
    ∙ get_or_append_left us (deviating_word pass us x ∷ []) [] 0 some

module _ (words : RankedWords) (many : length words.deviations ≡ 63) (some : 0 < words.count) where
  pub returned_words-first : get_or (returned_words words) 0 [] ≡ take words.pass.bits words.first_word
  returned_words-first =
      rw (take_all words.count (take words.pass.bits words.first_word ∷ []) (omega arith))
      (with_deviating_words-first words.pass (take words.pass.bits words.first_word ∷ []) (take (words.count - 1) words.deviations)
      (omega arith))

  pub returned_words-push : (x : Deviation) (branches : List WordBranch) → words.count < 64 →
      returned_words (one_more_word words x branches) ≡ returned_words words ++ word_made_by words x ∷ []
  returned_words-push x branches few =
      let first = take words.pass.bits words.first_word ∷ [] in
      let more : words.count + 1 - 1 ≡ words.count - 1 + 1 = omega arith in
      rw (
        take_all (words.count + 1) first (omega arith),
        take_all words.count first (omega arith),
        more,
        take_more_set words.deviations (words.count - 1) x (omega arith),
      )
      (with_deviating_words-push words.pass first (take (words.count - 1) words.deviations) x)

-- ---- lemmas about storing one more word as a deviation

IsMadeByDeviation-push : (pass : ViterbiPass) (us : List (List ℕ)) (w : List ℕ) (i : ℕ) (x : Deviation) → i < length us →
    IsMadeByDeviation pass us i x → IsMadeByDeviation pass (us ++ w ∷ []) i x
IsMadeByDeviation-push pass us w i x within returned =
    let parent = get_or_append_left us (w ∷ []) [] x.word_index (let h = returned.higher_ranked in omega arith) in record {
      higher_ranked = returned.higher_ranked;
      deviation = rw parent returned.deviation;
      word_is = rw parent (get_or_append_left us _ [] i within ∙ returned.word_is);
    }

IsMadeByDeviation-new : (pass : ViterbiPass) (us : List (List ℕ)) (i : ℕ) (x : Deviation) → i ≡ length us →
    DeviatesFromReturnedWord pass us x → IsMadeByDeviation pass (us ++ deviating_word pass us x ∷ []) i x
IsMadeByDeviation-new pass us i x end is =
    let parent = get_or_append_left us (deviating_word pass us x ∷ []) [] _ is.in_range in record {
      higher_ranked = omega arith;
      deviation = rw parent is.deviation;
      word_is = rw parent (get_or_push us _ [] i (sym end));
    }

pub made_by_deviation-more : (words : RankedWords) (x : Deviation) (branches : List WordBranch) → length words.deviations ≡ 63 →
    IsRanking words → words.count < 64 → DeviatesFromWords words x → (k : ℕ) → k + 1 < words.count + 1 →
    IsMadeByDeviation words.pass (returned_words (one_more_word words x branches)) (k + 1)
    (get_or (set words.deviations (words.count - 1) x) k placeholder_deviation)
made_by_deviation-more words x branches many old few is k within =
    rw (returned_words-push words many old.some x branches few) (elim (cases_lt (k + 1) words.count) [
      | inl early ↦ rw (get_or-set_other words.deviations (words.count - 1) k x placeholder_deviation (λ e. omega arith))
          (IsMadeByDeviation-push words.pass (returned_words words) (word_made_by words x) (k + 1)
          (get_or words.deviations k placeholder_deviation) (omega arith) (old.made_by_deviation k early))
      | inr late ↦ rw (get_or-set_at words.deviations (words.count - 1) k x placeholder_deviation (omega arith) (omega arith))
          (IsMadeByDeviation-new words.pass (returned_words words) (k + 1) x (omega arith) is)
    ])

-- ---- lemmas about the lexicographic order of two words that deviate from a common word

module _ (pass : ViterbiPass) (us : List (List ℕ)) (w : List ℕ) (x up : Deviation) (is : IsCompletePass pass) (all : All (IsCandidate
    (soft_bits_of_pass pass)) us) (returned : IsMadeByDeviation pass us x.word_index up) (before : up.point.index < x.point.index)
  where
    pub same_position-parent : DeviatesAtSamePosition us w x → DeviatesAtSamePosition us w up
    same_position-parent forks =
        let parent = all _ [] (omega arith) in
        let child : IsCandidate (soft_bits_of_pass pass) (get_or us x.word_index []) = all _ [] forks.in_range in
        record {
          in_range = omega arith;
          deviates = DeviatesAt-earlier (get_or us up.word_index []) (get_or us x.word_index []) w up.point.index x.point.index
              (omega arith)
              (rw returned.word_is (deviation-deviates pass (get_or us up.word_index []) up is parent returned.deviation)) forks.deviates
              before;
          bit = returned.deviation.bit;
        }

pub same_position-itself : (pass : ViterbiPass) (us : List (List ℕ)) (x : Deviation) → IsCompletePass pass →
    All (IsCandidate (soft_bits_of_pass pass)) us → DeviatesFromReturnedWord pass us x →
    DeviatesAtSamePosition us (deviating_word pass us x) x
same_position-itself pass us x is all deviation = record {
  in_range = deviation.in_range;
  deviates = deviation-deviates _ _ x is (all _ [] deviation.in_range) deviation.deviation;
  bit = deviation.deviation.bit;
}

module _ (pass : ViterbiPass) (us : List (List ℕ)) (v w : List ℕ) (x y : Deviation)
    (all : All (IsCandidate (soft_bits_of_pass pass)) us)
    (is_v : IsCandidate (soft_bits_of_pass pass) v) (is_w : IsCandidate (soft_bits_of_pass pass) w) (fx : DeviatesAtSamePosition us v x)
    (fy : DeviatesAtSamePosition us w y) (same : x.word_index ≡ y.word_index) where
  abbrev here : List ℕ
  here = get_or us x.word_index []

  is_u : IsCandidate (soft_bits_of_pass pass) here
  is_u = all _ [] fx.in_range

  equal_lengths : (t : List ℕ) → IsCandidate (soft_bits_of_pass pass) t → length t ≡ length here
  equal_lengths t is_t = let n = is_u.count in let m = is_t.count in omega arith

  left_y : DeviatesAt here w y.point.index
  left_y = rw same fy.deviates

  bit_y : y.point.bit ≡ get_or here y.point.index 0
  bit_y = rw same fy.bit

  pub order-earlier : x.point.index < y.point.index → DecidesLexicographicOrder v w (nat_eq x.point.bit 1)
  order-earlier early =
      let bit = bit_at-most_1 here x.point.index is_u.information.bits in
      let is = fx.bit in
      order-cases v w _
      (λ on. lex_before-fork here v w _ _ fx.deviates left_y early is_v.information.bits (equal_lengths v is_v) (equal_lengths w is_w)
      (grind arith))
      (λ off. inr (lex_behind-fork here v w _ _ fx.deviates left_y early is_v.information.bits (equal_lengths v is_v)
      (equal_lengths w is_w)
      (grind arith)))

  pub order-later : y.point.index < x.point.index → DecidesLexicographicOrder v w (nat_eq y.point.bit 0)
  order-later early =
      let bit = bit_at-most_1 here y.point.index is_u.information.bits in
      let is = bit_y in
      order-cases v w _
      (λ on. lex_behind-fork here w v _ _ left_y fx.deviates early is_w.information.bits (equal_lengths w is_w) (equal_lengths v is_v)
      (grind arith))
      (λ off. inr (lex_before-fork here w v _ _ left_y fx.deviates early is_w.information.bits (equal_lengths w is_w)
      (equal_lengths v is_v)
      (grind arith)))

-- ---- lemmas about writing out a word along its chain of deviations

drop-at : (xs : List ℕ) (k : ℕ) → k < length xs → drop k xs ≡ get_or xs k 0 ∷ drop (k + 1) xs
drop-at xs k within = rw (add-one, drop-cons xs k 0)

drop-set : (xs : List ℕ) (k x : ℕ) → k < length xs → drop k (set xs k x) ≡ x ∷ drop (k + 1) xs
drop-set xs k x within =
    rw (
      drop-at (set xs k x) k (omega (arith, length-set xs k x)),
      get_or-set_same xs k x 0 within,
      drop-set-lt (k + 1) xs k x
          (omega arith),
    ) refl

pub chain-more : (words : RankedWords) (xs : List ℕ) (start at i : ℕ) → start < length xs → 0 < at → at < words.count →
    IsChainOfDeviations words (drop (start + 1) xs) at i →
    IsChainOfDeviations words (drop start (set xs start at)) (get_or words.deviations (at - 1) placeholder_deviation).word_index i
chain-more words xs start at i within some small leads =
    rw drop-set (some, small, refl, leads)

-- u is a word on the chain of deviations that leads to word number i, and cs is the rest of the chain
abbrev pub IsOnChain : RankedWords → List ℕ → ℕ → List ℕ → Type 0
IsOnChain words cs i u = (at : ℕ) × (u ≡ get_or (returned_words words) at []) × (at < words.count) ×
    IsChainOfDeviations words cs at i

-- The invariant of `ListDecoder` holds after one more word is returned.

-- ---- lemmas about the invariant after the first word is returned

most_likely-traceback : (pass : ViterbiPass) (u : List ℕ) → IsCompletePass pass → IsMostLikely (soft_bits_of_pass pass) u →
    u ≡ traceback (decision_rows pass) 0
most_likely-traceback pass u is best =
    let n = length-traceback (decision_rows pass) 0 in
    let p = is.row_count in
    let five = is.at_least in
    let m = is.soft_bit_count in
    IsMostLikely-only (soft_bits_of_pass pass) (traceback (decision_rows pass) 0) u
    (IsMostLikely-best (soft_bits_of_pass pass) (traceback (decision_rows pass) 0) _ (omega arith) (omega arith)
    (survivor-best (decision_rows pass) (losses_of_pass pass) (soft_bits_of_pass pass) is.decisions (omega arith) 0 (omega arith))) best

pub IsSpanOfWord-first : (pass : ViterbiPass) (u : List ℕ) (span : WordSpan) → IsCompletePass pass →
    IsMostLikely (soft_bits_of_pass pass) u → span.metric ≡ likelihood (soft_bits_of_pass pass) (encoding u) → span.from ≡ 0 →
    span.to + 4 ≡ pass.bits → span.state ≡ 0 →
    IsSpanOfWord pass u span
IsSpanOfWord-first pass u span is best value from to state =
    record {
      follows = rw from (most_likely-traceback pass u is best);
      value = value;
      order = omega arith;
      span_ends_before_tail = omega arith;
      state_in_range = omega arith;
      state = rw from state;
    }

pub returned_words-one : (words : RankedWords) → words.count ≡ 1 →
    returned_words words ≡ take words.pass.bits words.first_word ∷ []
returned_words-one words one = ap (λ n. with_deviating_words words.pass (take n (take words.pass.bits words.first_word ∷ [])) (take
    (n - 1) words.deviations)) one

-- the backward pass leaves the soft bits, so the first word remains the most likely one
module _ (words : RankedWords) (pass : ViterbiPass) (sound : IsRankingSoFar words) (one : words.count ≡ 1)
    (soft : soft_bits_of_pass pass ≡ soft_bits_of_pass words.pass) (bits : pass.bits ≡ words.pass.bits) where
  pub first_word-most_likely : IsMostLikely (soft_bits_of_pass pass) (take pass.bits words.first_word)
  first_word-most_likely = subst (λ s. IsMostLikely s (take pass.bits words.first_word)) (sym soft)
      (subst (λ n. IsMostLikely (soft_bits_of_pass words.pass) (take n words.first_word)) (sym bits)
      ((most_likely_is_ranked _ _).1 (subst (IsRanked (soft_bits_of_pass words.pass)) (returned_words-one words one) sound.ranked)))

  pub first_word-metric : words.first_metric ≡ likelihood (soft_bits_of_pass pass) (encoding (take pass.bits words.first_word))
  first_word-metric = sound.first_metric one
      ∙ ap₂ (λ s n. likelihood s (encoding (take n words.first_word))) (sym soft) (sym bits)

module _ (words : RankedWords) (b : WordBranch) (one : words.count ≡ 1) (is_open : open_branches words ≡ b ∷ [])
    (pass : IsCompletePass words.pass) (best : IsMostLikely (soft_bits_of_pass words.pass) (take words.pass.bits words.first_word)) where
  abbrev first : List ℕ
  first = take words.pass.bits words.first_word

  pub IsRanking-first : IsBranch words.pass first b → b.span.word_index ≡ 0 → b.span.from ≡ 0 →
      b.span.to + 4 ≡ words.pass.bits → IsRanking words
  IsRanking-first is_b index from to =
      let begun = ranking-begins words.pass first b.span pass best (most_likely-traceback words.pass first pass best) from to in
      let returned = returned_words-one words one in
      let read : get_or (first ∷ []) b.span.word_index [] ≡ first = ap (λ k. get_or (first ∷ []) k []) index in
      record {
        pass = pass;
        some = omega arith;
        at_most = omega arith;
        count = ap length returned ∙ sym one;
        ranked = subst (IsRanked (soft_bits_of_pass words.pass)) (sym returned) begun.0;
        made_by_deviation = (λ k within. absurd (omega arith));
        all_branches = subst (λ us. All (IsBranchOfReturnedWord words.pass us) (open_branches words)) (sym returned)
            (subst (All (IsBranchOfReturnedWord words.pass (first ∷ []))) (sym is_open)
            (All-cons (IsBranchOfReturnedWord words.pass (first ∷ [])) b []
            (record { in_range = omega arith; is_branch = subst (λ u. IsBranch words.pass u b) (sym read) is_b })
            (All-nil (IsBranchOfReturnedWord words.pass (first ∷ [])))));
        partition = subst (λ us. PartitionsUnreturnedWords (soft_bits_of_pass words.pass) us (map (class_of_branch us)
            (open_branches words))) (sym returned)
            (subst (λ bs. PartitionsUnreturnedWords (soft_bits_of_pass words.pass) (first ∷ [])
            (map (class_of_branch (first ∷ [])) bs)) (sym is_open)
            (subst (λ u'. PartitionsUnreturnedWords (soft_bits_of_pass words.pass) (first ∷ []) (deviations_in_span u' b.span ∷ []))
            (sym read) begun.1));
      }

pub IsRankingSoFar-from : (words : RankedWords) → IsRanking words →
    (words.count ≡ 1 → words.first_metric ≡ likelihood (soft_bits_of_pass words.pass) (encoding
    (take words.pass.bits words.first_word))) →
    IsRankingSoFar words
IsRankingSoFar-from words ranking value = record {
  has_soft_bits = record {
    at_least = ranking.pass.at_least;
    at_most = ranking.pass.at_most;
    soft_bit_count = ranking.pass.soft_bit_count;
    row_count = ranking.pass.row_count;
    soft = ranking.pass.soft;
  };
  at_most = ranking.at_most;
  count = ranking.count;
  ranked = ranking.ranked;
  first_metric = value;
  later = λ more. ranking;
}

pub IsRankingSoFar-first : (words : RankedWords) (u : List ℕ) → HasSoftBits words.pass → words.count ≡ 1 →
    take words.pass.bits words.first_word ≡ u → IsMostLikely (soft_bits_of_pass words.pass) u →
    words.first_metric ≡ likelihood (soft_bits_of_pass words.pass) (encoding u) → IsRankingSoFar words
IsRankingSoFar-first words u has one reads best value =
    let returned = returned_words-one words one ∙ ap (λ u. u ∷ []) reads in
    record {
      has_soft_bits = has;
      at_most = omega arith;
      count = ap length returned ∙ sym one;
      ranked = rw returned ((most_likely_is_ranked _ u).0 best);
      first_metric = λ one. rw reads value;
      later = λ more. absurd (omega arith);
    }

-- ---- lemmas about the words after one more is returned

module _ (words : RankedWords) (old : IsRanking words) (few : words.count < 64) (many : length words.deviations ≡ 63)
    (room : length words.branches ≡ 127) (u : List ℕ) (next : NextWord)
    (is : IsNextRankedWord words.pass (returned_words words) (open_branches words) u next) where
  -- the branch of the next word is replaced, and two are added
  abbrev branches : List WordBranch
  branches = set (set (set words.branches next.branch next.parts.branch_before) (2 * words.count - 1) next.parts.branch_of_new_word)
      (2 * words.count - 1 + 1) next.parts.branch_after

  abbrev more : RankedWords
  more = one_more_word words next.deviation branches

  pub returned_words-next : returned_words (one_more_word words next.deviation (set
      (set (set words.branches next.branch next.parts.branch_before) (2 * words.count - 1) next.parts.branch_of_new_word)
      (2 * words.count - 1 + 1) next.parts.branch_after)) ≡ returned_words words ++ u ∷ []
  returned_words-next = returned_words-push words many old.some next.deviation branches few
      ∙ ap (λ u. returned_words words ++ u ∷ []) (sym is.word_is)

  next_branches : open_branches more ≡ branches_after_word (open_branches words) next
  next_branches =
      let n = 2 * words.count - 1 in
      let some = old.some in
      let one = set _ _ next.parts.branch_before in
      let within : next.branch < n = omega (arith, is.in_range, length-take n words.branches) in
      let long : length one ≡ 127 = length-set words.branches next.branch next.parts.branch_before ∙ room in
      take-set_at (set one n next.parts.branch_of_new_word) (n + 1) (2 * (words.count + 1) - 1) next.parts.branch_after (omega arith)
      (omega (arith, length-set one n next.parts.branch_of_new_word))
      ∙ ap (λ bs. bs ++ next.parts.branch_after ∷ []) (
      take_more_set one n next.parts.branch_of_new_word (omega arith)
      ∙ ap (λ bs. bs ++ next.parts.branch_of_new_word ∷ []) (take-set-lt n words.branches next.branch next.parts.branch_before within))

  pub IsRanking-next : IsRanking (one_more_word words next.deviation (set
      (set (set words.branches next.branch next.parts.branch_before) (2 * words.count - 1) next.parts.branch_of_new_word)
      (2 * words.count - 1 + 1) next.parts.branch_after))
  IsRanking-next = record {
    pass = old.pass;
    some = omega arith;
    at_most = omega arith;
    count = ap length returned_words-next ∙ length-append (returned_words words) (u ∷ []) ∙ ap (λ n. n + 1) old.count;
    ranked = subst (IsRanked (soft_bits_of_pass words.pass)) (sym returned_words-next) is.ranked;
    made_by_deviation = made_by_deviation-more words next.deviation branches many old few is.deviation;
    all_branches = subst (λ us. All (IsBranchOfReturnedWord words.pass us) (open_branches more)) (sym returned_words-next)
        (subst (All (IsBranchOfReturnedWord words.pass (returned_words words ++ u ∷ []))) (sym next_branches) is.all_branches);
    partition = subst (λ us. PartitionsUnreturnedWords (soft_bits_of_pass words.pass) us (map (class_of_branch us)
        (open_branches more))) (sym returned_words-next)
        (subst (λ bs. PartitionsUnreturnedWords (soft_bits_of_pass words.pass) (returned_words words ++ u ∷ []) (map (class_of_branch
        (returned_words words ++ u ∷ [])) bs)) (sym next_branches) is.partition);
  }

-- ---- lemmas about the case that no branch has a word left

pub every_word_returned : (words : RankedWords) → IsRanking words → NoBranchHasUnreturnedWord (open_branches words) →
    (w : List ℕ) → IsCandidate (soft_bits_of_pass words.pass) w → Contains (returned_words words) w
every_word_returned words has none w is_w =
    ends_ranked (soft_bits_of_pass words.pass) _ (map _ _) has.partition
    (λ e w member is_w in_class.
    let found = Contains-class (returned_words words) (open_branches words)
    (λ b. IsBranchOfReturnedWord words.pass (returned_words words) b × (b.best ≡ None)) e
    (λ k d lt. (has.all_branches k d lt, none k d lt)) member in
    let u = get_or (returned_words words) found.0.span.word_index [] in
    subst (IsMostLikelyDeviation words.pass u found.0.span) found.1.1 found.1.0.is_branch.best w is_w
    (subst (λ e. IsInClass e w) (sym found.2) in_class))
    w is_w

pub take-same_length : (bits : ℕ) (row u : List ℕ) → take (length u) row ≡ u → length u ≡ bits → take bits row ≡ u
take-same_length bits row u reads same = rw (← same) reads

-- ---- lemmas about the result of `next`

Some-not_none : {X : Type 0} {x : X} → Some x ≡ None → ⊥
Some-not_none e = cc

pub push-empty : (us : List (List ℕ)) (u : List ℕ) → length us ≡ 0 → us ++ u ∷ [] ≡ u ∷ []
push-empty [] u none = refl
push-empty (v ∷ us) u none = absurd (omega arith)

-- `new` has one word more than `old`, or no word is left
module _ (old new : RankedWords) (u : List ℕ) (sound : IsRankingSoFar new)
    (soft : soft_bits_of_pass new.pass ≡ soft_bits_of_pass old.pass) where
  ranked : returned_words new ≡ returned_words old ++ u ∷ [] → IsRanked (soft_bits_of_pass new.pass) (returned_words old ++ u ∷ [])
  ranked returned = subst (IsRanked (soft_bits_of_pass new.pass)) returned sound.ranked

  candidate : returned_words new ≡ returned_words old ++ u ∷ [] → IsCandidate (soft_bits_of_pass new.pass) u
  candidate returned = All-contains (IsCandidate (soft_bits_of_pass new.pass)) (returned_words old ++ u ∷ []) u
      (ranked returned).ranked_words_are_candidates (Contains-push (returned_words old) u)

  not_done : length (returned_words old) < 64 → returned_words new ≡ returned_words old ++ u ∷ [] →
      IsRankingDone (ranking_of old) → ⊥
  not_done few returned (inl full) = omega arith
  not_done few returned (inr all) =
      IsRanked-not_repeated (soft_bits_of_pass new.pass) (returned_words old) u (ranked returned)
      (all u (subst (λ s. IsCandidate s u) soft (candidate returned)))

  pub information : (P : Type 0) (R : ℤ → Type 0) (result : Option ℤ) →
      MatchOption result P (λ value. (returned_words new ≡ returned_words old ++ u ∷ []) × R value) →
      IfSome result (λ value. IsEncoderInput u)
  information P R None none = tt
  information P R (Some value) some = (candidate some.0).information

  pub IsRankingDone-none : (P Q : Type 0) (R : ℤ → Type 0) (result : Option ℤ) → length (returned_words old) < 64 →
      MatchOption result (P × Q × IsRankingDone (ranking_of old))
      (λ value. (returned_words new ≡ returned_words old ++ u ∷ []) × R value) →
      (result ≡ None → IsRankingDone (ranking_of old)) × (IsRankingDone (ranking_of old) → result ≡ None)
  IsRankingDone-none P Q R None few none = ((λ e. none.2), (λ done. refl))
  IsRankingDone-none P Q R (Some value) few some = ((λ e. absurd (Some-not_none e)), (λ done. absurd (not_done few some.0 done)))
