-- Words that deviate from the best word of a state: the positions where they deviate, and how much path metric they lose.
use Rattle.{
  list_decode.{
    specs.{
      Classes.DeviatesAt,
      DeviatingWords.{IsLeastLossPosition, deviation_loss, state_after_bits, FollowsSurvivors},
      PartialTracebacks.{IsLeastLossDeviation, IsPartialTraceback},
      declared.deviation.{PartialTraceback.PartialTraceback, PossibleDeviation.PossibleDeviation},
      Choices.DecidesLexicographicOrder,
    },
    proofs.Classes.{DeviatesAt-tail, deviates, lex_before-deviates, lex_behind-deviates},
  },
  std.{
    proofs.{
      Common.{Bool, List, [], ap, ap₂, arith, below_more, cond, drop, eq-eqb, eqb, false, get_or, inl, inr, length, ltb, ne_eqb, pos},
      Common.{refl, slice_set, suc, sym, take, true, zero, ℕ, ℤ, ◌%◌, ◌++◌, ◌+ℤ◌, ◌+◌, ◌-ℤ◌, ◌*◌, ◌/◌},
      Common.{◌<◌, ◌^◌, ◌∙◌, ◌∷◌, ◌≡◌, ◌≢◌, ◌≤◌, ◌⊎◌},
      lemmas.{Bool.cases_lt, Cmp.same_from_slice_cmp_tested, Int.{by_lt_z, ints}, List.{append_assoc, drop_more, length-take}},
      lemmas.List.{take-append-drop, take_more_set, take_more},
    },
    specs.{Cmp.Lexicographic.slice_partial_cmp, Ordering.{is_lt, is_some_and, nat_cmp}, Prelude.{Some, ◌<ℤ◌, ◌≤ℤ◌}},
  },
  trellis_decode.{
    proofs.Lemmas.{HasTailBits-bits, IsNoBetterPath-same, length-traceback, metric_from_state-cons},
    specs.Trellis.{AreDecisions, IsNoBetterPath, IsSurvivor, branch_metric, metric_from_state, next_trellis_state, traceback},
  },
  weight_bound.{
    proofs.conv_code.Lemmas.{bit_at-most_1, same_list},
    specs.{bit_blocks.Bits.AllBits, conv_code.Likelihood.IsLexicographicallyBefore},
  },
}

-- The comparison of slices decides the lexicographic order of words.

abbrev pub test : List ℕ → List ℕ → Bool
test [] [] = false
test [] (y ∷ v) = true
test (x ∷ u) [] = false
test (x ∷ u) (y ∷ v) = cond (eqb x y) (test u v) (ltb x y)

pub test-slice_cmp : (u v : List ℕ) (r : Bool) → r ≡ is_some_and is_lt (slice_partial_cmp (λ x y. Some (nat_cmp x y)) u v) →
    r ≡ test u v
test-slice_cmp = same_from_slice_cmp_tested _ _ _ refl (λ _ _. refl) (λ _ _. refl) (λ x y xs ys o h. grind (arith))

test-deviates : (u v : List ℕ) (index : ℕ) → length v ≡ length u → DeviatesAt u v index →
    test u v ≡ ltb (get_or u index 0) (get_or v index 0)
test-deviates (x ∷ u) (y ∷ v) zero same at = ap (λ t. cond t (test u v) (ltb x y)) (ne_eqb x y at.differs)
test-deviates (x ∷ u) (y ∷ v) (suc index) same at =
    ap (λ t. cond t (test u v) (ltb x y)) (eq-eqb x y (at.equal_before 0 (omega arith)))
    ∙ test-deviates u v index (omega arith) (DeviatesAt-tail x y u v index at)
test-deviates u v index same at = absurd (let i = at.in_range in omega arith)

test-itself : (u : List ℕ) → test u u ≡ false
test-itself [] = refl
test-itself (x ∷ u) = ap (λ t. cond t (test u u) (ltb x x)) (eq-eqb x x refl) ∙ test-itself u

pub order-cases : (u v : List ℕ) (before : Bool) → (before ≡ true → IsLexicographicallyBefore u v) →
    (before ≡ false → (u ≡ v) ⊎ IsLexicographicallyBefore v u) → DecidesLexicographicOrder u v before
order-cases u v true first second = first refl
order-cases u v false first second = second refl

pub order-test : (u v : List ℕ) (before : Bool) → AllBits u → AllBits v → length v ≡ length u → before ≡ test u v →
    DecidesLexicographicOrder u v before
order-test u v before bits_u bits_v same is = elim (same_list u v) [
  | inl equal ↦
      let off = test-itself u in
      order-cases u v before (λ on. absurd (cc (ap (test u) equal))) (λ off. inl equal)
  | inr other ↦
      let there = deviates u v same (λ e. other (sym e)) in
      let test-slice_cmp = is ∙ test-deviates u v there.0 same there.1 in
      let x = bit_at-most_1 u there.0 bits_u in
      let y = bit_at-most_1 v there.0 bits_v in
      let differs = there.1.differs in
      order-cases u v before
      (λ on. lex_before-deviates u v there.0 there.1 (grind arith) (grind arith))
      (λ off. inr (lex_behind-deviates u v there.0 there.1 same (grind arith) (grind arith)))
]

-- Every word other than the best word from a state first deviates from it at some position, and loses at least the loss stored there.

pub metric_from_state-more : (state x : ℕ) (u : List ℕ) (soft : List ℤ) → 2 ≤ length soft →
    metric_from_state state (x ∷ u) soft ≡ branch_metric state x (take 2 soft) +ℤ metric_from_state (next_trellis_state state x) u
    (drop 2 soft)
metric_from_state-more state x u soft four_rows =
    ap (metric_from_state state (x ∷ u)) (sym (take-append-drop 2 _))
    ∙ metric_from_state-cons _ x u _ _ (omega (arith, length-take 2 soft))

pub IsNoBetterPath-more : (state x : ℕ) (w u : List ℕ) (soft : List ℤ) → 2 ≤ length soft →
    IsNoBetterPath (next_trellis_state state x) (drop 2 soft) w u → IsNoBetterPath state soft (x ∷ w) (x ∷ u)
IsNoBetterPath-more state x w u soft four_rows h =
    rw (← take-append-drop 2 soft) (IsNoBetterPath-same _ x w u _ (drop 2 soft) (omega (arith, length-take 2 soft)) h)

pub survivor-best : (rows : List ℕ) (losses : List (List ℤ)) (soft : List ℤ) → AreDecisions rows losses soft →
    1 ≤ length rows →
    (s : ℕ) → s < 16 → IsSurvivor s (traceback rows s) soft (metric_from_state s (traceback rows s) soft)
survivor-best [] losses soft kept some s lt = absurd (omega arith)
survivor-best (row ∷ rows) [] soft kept some s lt = absurd kept
survivor-best (row ∷ rows) (lost ∷ losses) soft kept some s lt = kept.1.best s lt

pub AllBits-traceback : (rows : List ℕ) (losses : List (List ℤ)) (soft : List ℤ) → AreDecisions rows losses soft →
    1 ≤ length rows → AllBits (traceback rows 0)
AllBits-traceback rows losses soft kept some = HasTailBits-bits _ (survivor-best _ losses soft kept some 0 (omega arith)).tail_bits

-- How the position with the least loss changes when one more position is examined.

pub state_after-more : (u : List ℕ) (k state : ℕ) → k < length u →
    state_after_bits state (take (k + 1) u) ≡ next_trellis_state (state_after_bits state (take k u)) (get_or u k 0)
state_after-more [] k state within = absurd (omega arith)
state_after-more (x ∷ u) zero state within = refl
state_after-more (x ∷ u) (suc k) state within =
    let more : suc k + 1 ≡ suc (k + 1) = omega arith in
    rw more (state_after-more u k _ (omega arith))

pub state_after-below : (state : ℕ) (u : List ℕ) → state < 16 → state_after_bits state u < 16
state_after-below state [] small = small
state_after-below state (x ∷ u) small = state_after-below (next_trellis_state _ x) u (omega arith)

pub length-follows : (from : ℕ) (u rows : List ℕ) (state : ℕ) → FollowsSurvivors from u rows state → length u ≡ length rows
length-follows zero u rows state h = ap length h ∙ length-traceback _ _
length-follows (suc from) (x ∷ u) (row ∷ rows) state h = ap suc (length-follows from u _ _ h)
length-follows from u rows state h = absurd h

-- ---- lemmas about words that follow the survivors

pub follows_all : (n : ℕ) (rows : List ℕ) (state : ℕ) → n ≤ length rows → FollowsSurvivors n (traceback rows state) rows state
follows_all zero rows state within = refl
follows_all (suc n) [] state within = absurd (omega arith)
follows_all (suc n) (row ∷ rows) state within = follows_all n _ _ (omega arith)

pub follows_later : (from n : ℕ) (u rows : List ℕ) (state : ℕ) → FollowsSurvivors from u rows state → from ≤ n →
    n ≤ length rows → FollowsSurvivors n u rows state
follows_later zero n u rows state follows le within =
    rw follows (follows_all n _ _ within)
follows_later (suc from) (suc n) (x ∷ u) (row ∷ rows) state follows le within =
    follows_later from n u _ _ follows (omega arith) (omega arith)
follows_later from n u rows state follows le within = absurd (omega arith)

pub follows-drop : (n : ℕ) (u rows : List ℕ) (state : ℕ) → FollowsSurvivors n u rows state →
    drop n u ≡ traceback (drop n rows) (state_after_bits state (take n u))
follows-drop zero u rows state follows = follows
follows-drop (suc n) (x ∷ u) (row ∷ rows) state follows = follows-drop n u rows _ follows
follows-drop n u rows state follows = absurd follows

pub traceback-drop : (rows : List ℕ) (state index : ℕ) → index ≤ length rows →
    drop index (traceback rows state) ≡ traceback (drop index rows) (state_after_bits state (take index (traceback rows state)))
traceback-drop rows state index within = follows-drop index (traceback rows state) rows state (follows_all index rows state within)

pub chosen_bit : (rows : List ℕ) (state k : ℕ) → k < length rows →
    get_or (traceback rows state) k 0 ≡ get_or rows k 0 / 2 ^ state_after_bits state (take k (traceback rows state)) % 2
chosen_bit [] state k within = absurd (omega arith)
chosen_bit (row ∷ rows) state zero within = refl
chosen_bit (row ∷ rows) state (suc k) within = chosen_bit rows _ k (omega arith)

pub traceback-small : (rows : List ℕ) (state k : ℕ) → get_or (traceback rows state) k 0 ≤ 1
traceback-small (row ∷ rows) state (suc k) = traceback-small rows _ k
traceback-small rows state k = omega arith

-- traceback writes one more bit
pub traceback-more : (rows u : List ℕ) (k n state bit : ℕ) → k + 1 ≡ n → k < length u → k < length rows →
    bit ≡ get_or rows k 0 / 2 ^ state % 2 →
    take n (slice_set u k bit) ++ traceback (drop n rows) (next_trellis_state state bit) ≡ take k u ++ traceback (drop k rows) state
traceback-more rows u k n state bit next within in_rows is =
    ap (λ n. take n (slice_set u k bit) ++ traceback (drop n rows) (next_trellis_state state bit)) (sym next)
    ∙ ap (λ front. front ++ traceback (drop (k + 1) rows) (next_trellis_state state bit)) (take_more_set u k bit within)
    ∙ append_assoc (take k u) (bit ∷ []) _
    ∙ ap (λ bit. take k u ++ bit ∷ traceback (drop (k + 1) rows) (next_trellis_state state bit)) is
    ∙ ap (λ rest. take k u ++ traceback rest state) (sym (drop_more rows k 0 in_rows))

state_after-next : (u : List ℕ) (k j state : ℕ) → k + 1 ≡ j → k < length u →
    state_after_bits state (take j u) ≡ next_trellis_state (state_after_bits state (take k u)) (get_or u k 0)
state_after-next u k j state next within = rw (← next) (state_after-more u k state within)

-- a state consists of the last four bits
pub traceback-after_four : (rows u : List ℕ) (from k n state : ℕ) → u ≡ traceback rows from → k + 4 ≡ n →
    n ≤ length rows →
    state ≡ 8 * get_or u k 0 + 4 * get_or u (k + 1) 0 + 2 * get_or u (k + 2) 0 + get_or u (k + 3) 0 →
    drop n u ≡ traceback (drop n rows) state
traceback-after_four rows u from k n state is end within last =
    let long = ap length is ∙ length-traceback rows from in
    let b0 : get_or u k 0 ≤ 1 = rw is (traceback-small rows from k) in
    let b1 : get_or u (k + 1) 0 ≤ 1 = rw is (traceback-small rows from (k + 1)) in
    let b2 : get_or u (k + 2) 0 ≤ 1 = rw is (traceback-small rows from (k + 2)) in
    let b3 : get_or u (k + 3) 0 ≤ 1 = rw is (traceback-small rows from (k + 3)) in
    let s1 = state_after-next u k (k + 1) from refl (omega arith) in
    let s2 = state_after-next u (k + 1) (k + 2) from (omega arith) (omega arith) in
    let s3 = state_after-next u (k + 2) (k + 3) from (omega arith) (omega arith) in
    let s4 = state_after-next u (k + 3) n from (omega arith) (omega arith) in
    follows-drop n u rows from (follows_later 0 n u rows from is (omega arith) within)
    ∙ ap (traceback (drop n rows)) (omega arith)

pub follows_past : (u rows : List ℕ) (index state : ℕ) → FollowsSurvivors index u rows 0 → index < length rows →
    state ≡ state_after_bits 0 (take index u)
    → drop (index + 1) u ≡ traceback (drop (index + 1) rows) (next_trellis_state state (get_or u index 0))
follows_past u rows index state follows within at =
    let long = length-follows index u rows 0 follows in
    follows-drop (index + 1) u rows 0 (follows_later index (index + 1) u rows 0 follows (omega arith) (omega arith))
    ∙ ap (traceback (drop (index + 1) rows))
    (state_after-more u index 0 (omega arith) ∙ ap (λ state. next_trellis_state state (get_or u index 0)) (sym at))

pub traceback-drop_next : (rows u : List ℕ) (index state : ℕ) → u ≡ traceback rows 0 → index < length rows →
    length rows ≡ length u → state ≡ state_after_bits 0 (take index u) →
    drop (index + 1) u ≡ traceback (drop (index + 1) rows) (next_trellis_state state (get_or u index 0))
traceback-drop_next rows u index state is within count at =
    follows_past u rows index state (follows_later 0 index u rows 0 is (omega arith) (omega arith)) within at

-- bit j of u is 0: if j is `index`, bit `index` is 0; if j is smaller, by assumption; and if j were greater, bit `index` would be 1
pub zero_at : (u : List ℕ) (index j : ℕ) → get_or u index 0 ≡ 0 → (j < index → get_or u j 0 ≡ 0) →
    (index < j → get_or u index 0 ≡ 1) → get_or u j 0 ≡ 0
zero_at u index j none before after = grind arith

IsLeastLossPosition-old : (u : List ℕ) (losses : List (List ℤ)) (k index : ℕ) (loss : ℤ) → get_or u index 0 ≤ 1 →
    IsLeastLossPosition u losses k index loss → (loss <ℤ deviation_loss 0 u losses k)
    ⊎ ((deviation_loss 0 u losses k ≡ loss) × (get_or u index 0 ≢ 0)) →
    IsLeastLossPosition u losses (k + 1) index loss
IsLeastLossPosition-old u losses k index loss kept_bit old more = record {
  value = old.value;
  least = below_more _ _ old.least (elim more [ inl less ↦ omega (arith, ints) | inr tie ↦ let e = tie.0 in omega (arith, ints) ]);
  tie_before = old.tie_before;
  tie_after = λ j late lt equal. elim (cases_lt j k) [
    | inl early ↦ old.tie_after j late early equal
    | inr now ↦
        let here : j ≡ k = omega arith in
        elim more [ inl less ↦ absurd (let e = rw here at equal in omega (arith, ints)) | inr tie ↦ let ne = tie.1 in omega arith ]
  ];
}

IsLeastLossPosition-new : (u : List ℕ) (losses : List (List ℤ)) (k index : ℕ) (loss : ℤ) → index ≤ k →
    IsLeastLossPosition u losses k index loss → (deviation_loss 0 u losses k <ℤ loss)
    ⊎ ((deviation_loss 0 u losses k ≡ loss) × (get_or u index 0 ≡ 0)) →
    IsLeastLossPosition u losses (k + 1) k (deviation_loss 0 u losses k)
IsLeastLossPosition-new u losses k index loss found old less = record {
  value = refl;
  least = below_more _ _ (λ j lt. let low = old.least j lt in elim less [
    | inl less ↦ omega (arith, ints)
    | inr tie ↦ let e = tie.0 in omega (arith, ints)
  ]) (omega (arith, ints));
  tie_before = λ j lt equal. elim less [
    | inl less ↦ absurd (let low = old.least j lt in omega (arith, ints))
    | inr tie ↦ zero_at u index j tie.1 (λ early. old.tie_before j early (equal ∙ tie.0))
        (λ late. old.tie_after j late lt (equal ∙ tie.0))
  ];
  tie_after = λ j late lt equal. absurd (omega arith);
}

pub loss_limit-below : (loss least : ℤ) (kept_bit : ℕ) → kept_bit ≤ 1 → loss ≤ℤ (least -ℤ pos kept_bit) →
    (loss <ℤ least) ⊎ ((loss ≡ least) × (kept_bit ≡ 0))
loss_limit-below loss least zero one h = by_lt_z loss least inl (λ not_less. inr (omega (arith, ints), refl))
loss_limit-below loss least (suc kept_bit) one h = inl (omega (arith, ints))

pub loss_limit-not_below : (loss least : ℤ) (kept_bit : ℕ) → kept_bit ≤ 1 → (least -ℤ pos kept_bit) <ℤ loss →
    (least <ℤ loss) ⊎ ((loss ≡ least) × (kept_bit ≢ 0))
loss_limit-not_below loss least zero one h = inl (omega (arith, ints))
loss_limit-not_below loss least (suc kept_bit) one h = by_lt_z least loss inl (λ not_less. inr (omega (arith, ints), (λ e. omega arith)))

-- ---- lemmas about one step of the traceback, which reads the bit at one more position

module _ (rows : List ℕ) (losses : List (List ℤ)) (u : List ℕ) (k : ℕ) (old : PartialTraceback)
    (reading : IsPartialTraceback rows losses u k old) (inside : k + 4 < length rows) where
  abbrev chosen : List ℕ
  chosen = traceback rows 0

  abbrev lost : ℤ
  lost = get_or (get_or losses k []) old.state (pos 0)

  abbrev kept_bit : ℕ
  kept_bit = get_or rows k 0 / 2 ^ old.state % 2

  inside_chosen : k + 4 < length chosen
  inside_chosen = rw (length-traceback rows 0) inside

  lost_is : lost ≡ deviation_loss 0 chosen losses k
  lost_is = ap (λ s. get_or (get_or losses k []) s (pos 0)) reading.state

  bit_is : kept_bit ≡ get_or chosen k 0
  bit_is = ap (λ s. get_or rows k 0 / 2 ^ s % 2) reading.state ∙ sym (chosen_bit _ 0 k (omega arith))

  pub least_loss-new : (new : PossibleDeviation) → lost ≤ℤ old.best.loss_limit → new.index ≡ k → new.state ≡ old.state →
      new.loss ≡ lost → new.loss_limit ≡ lost -ℤ pos kept_bit → IsLeastLossDeviation chosen losses (k + 1) new
  least_loss-new new less index state loss loss_limit =
      let best = reading.best in
      let is = lost_is in
      let inside = inside_chosen in
      let small = traceback-small rows 0 old.best.index in
      let better = loss_limit-below _ _ _ small (omega (arith, ints)) in
      record {
        index_at_most_limit = omega arith;
        in_range = omega arith;
        state = rw index (state ∙ reading.state);
        least = rw (
          index,
          loss,
          is,
        ) (IsLeastLossPosition-new chosen losses k old.best.index old.best.loss best.index_at_most_limit best.least
            better);
        loss_limit = rw (index, loss, ← bit_is) loss_limit;
      }

  pub least_loss-old : old.best.loss_limit <ℤ lost → IsLeastLossDeviation chosen losses (k + 1) old.best
  least_loss-old not_less =
      let best = reading.best in
      let is = lost_is in
      let known = best.loss_limit in
      let small = traceback-small rows 0 old.best.index in
      let worse = loss_limit-not_below _ _ _ small (omega (arith, ints)) in
      record {
        index_at_most_limit = let f = best.index_at_most_limit in omega arith;
        in_range = best.in_range;
        state = best.state;
        least = IsLeastLossPosition-old chosen losses k old.best.index old.best.loss small best.least worse;
        loss_limit = best.loss_limit;
      }

  pub partial_traceback-more : (new : PartialTraceback) (written : ℕ) → k < length u → written ≡ kept_bit →
      new.state ≡ next_trellis_state old.state written →
      IsLeastLossDeviation chosen losses (k + 1) new.best → IsPartialTraceback rows losses (slice_set u k written) (k + 1) new
  partial_traceback-more new written within is state best = record {
    state_in_range = omega arith;
    state = state ∙ ap₂ next_trellis_state reading.state (is ∙ bit_is)
        ∙ sym (state_after-more _ k 0 (let i = inside_chosen in omega arith));
    bits_traced = take_more_set u k written within
        ∙ ap₂ (λ front kept_bit. front ++ kept_bit ∷ []) reading.bits_traced (is ∙ bit_is)
        ∙ sym (take_more chosen k 0 (let i = inside_chosen in omega arith));
    best = best;
  }
