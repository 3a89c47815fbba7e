-- Spans of a word, and the deviation in a span that loses least.
use Rattle.{
  list_decode.{
    proofs.{
      DeviatingWords.{loss_limit-below, traceback-small, chosen_bit, traceback-drop, loss_limit-not_below, state_after-more},
      DeviatingWords.{state_after-below, follows_past, follows_later, follows-drop, zero_at},
      Deviations.{FollowsFrom, deviation_best, deviation_value, deviation_written, follows-deviation},
    },
    specs.{
      Branches.{IsDeviation, IsMostLikelyDeviation, IsSpanOfWord, deviations_in_span, word_of_deviation},
      DeviatingWords.{IsLeastLossFreePosition, deviation_loss, word_deviating_at, is_in_range, state_after_bits},
      LeastLosses.{IsLeastLossDeviationOrNone, IsLeastLossSoFar, IsPossibleDeviation},
      Passes.{IsCompletePass, decision_rows, losses_of_pass, soft_bits_of_pass},
      Ranking.IsCandidate,
      declared.branch.{Deviation.Deviation, LeastLossSoFar.LeastLossSoFar, WordSpan.WordSpan},
      declared.{deviation.PossibleDeviation.PossibleDeviation, pass.ViterbiPass.ViterbiPass},
    },
  },
  std.{
    proofs.{
      Common.{FitsSigned, List, Some, [], ap, ap₂, arith, drop, get_or, inl, inr, length, negsuc, pos, refl, suc, sym, take, true, w32},
      Common.{zero, ℕ, ℤ, ◌%◌, ◌*◌, ◌++◌, ◌+◌, ◌-ℤ◌, ◌-◌, ◌/◌, ◌<◌, ◌^◌, ◌∙◌, ◌∷◌},
      Common.{◌≡◌, ◌≢◌, ◌≤◌, ◌⊎◌},
      lemmas.{Bool.cases_lt, Int.ints, List.{Elements.{All-head, All-tail}, get_or-drop}},
    },
    specs.Prelude.{◌<ℤ◌, ◌≤ℤ◌},
  },
  trellis_decode.{proofs.Lemmas.{bit_metric-one, bit_metric-zero, length-traceback}, specs.Trellis.{next_trellis_state, traceback}},
  weight_bound.{
    proofs.conv_code.Lemmas.{AllBits-coded, bit_at-most_1},
    specs.{bit_blocks.{Bits.AllBits, SoftValues.{IsSoftBit, bit_metric}}, conv_code.{Code.encoding, Likelihood.{AllSoftBits, likelihood}}},
  },
}

-- ## Spans: A span of a word, and the most likely word that deviates in it.

-- ---- lemmas about the positions of a span

pub is_between : (from to k : ℕ) → from ≤ k → k < to → is_in_range from to k ≡ true
is_between from to k h g = grind (arith)

pub between_from : (from to k : ℕ) → is_in_range from to k ≡ true → from ≤ k
between_from from to k h = grind (arith)

pub between_to : (from to k : ℕ) → is_in_range from to k ≡ true → k < to
between_to from to k h = grind (arith)

module _ (pass : ViterbiPass) (u : List ℕ) (x : Deviation) (complete : IsCompletePass pass)
    (list : IsCandidate (soft_bits_of_pass pass) u)
    (is : IsDeviation pass u x) where
  abbrev index : ℕ
  index = x.point.index

  equal_lengths : length (decision_rows pass) ≡ length u
  equal_lengths = omega arith

  pub chosen_behind : drop (index + 1) u ≡ traceback (drop (index + 1) (decision_rows pass))
      (next_trellis_state x.point.state (get_or u index 0))
  chosen_behind = follows_past u _ index _ is.follows (omega arith) is.state

  pub word_of_deviation-written : take index u ++ (1 - get_or u index 0) ∷
      traceback (drop (index + 1) (decision_rows pass)) (next_trellis_state x.point.state (1 - get_or u index 0)) ≡
      word_of_deviation pass u x
  word_of_deviation-written = rw is.state (deviation_written u _ 0 _ (omega arith) equal_lengths)

-- ---- path metrics fit in an `i32`

IsSoftBit-bit_metric : (p : ℤ) (x : ℕ) → IsSoftBit p → x ≤ 1 → IsSoftBit (bit_metric p x)
IsSoftBit-bit_metric p zero soft bit = rw bit_metric-zero soft
IsSoftBit-bit_metric p (suc zero) soft bit = rw (bit_metric-one p) (omega (arith, ints), omega (arith, ints))
IsSoftBit-bit_metric p x soft bit = absurd (omega arith)

likelihood-bounds : (s : List ℤ) (c : List ℕ) → AllSoftBits s → AllBits c →
    ((pos 0 -ℤ pos (127 * length s)) ≤ℤ likelihood s c) × (likelihood s c ≤ℤ pos (127 * length s))
likelihood-bounds (p ∷ s) (x ∷ c) soft bits =
    let here = IsSoftBit-bit_metric p x (All-head IsSoftBit p s soft) (All-head (λ b. b ≤ 1) x c bits) in
    let rest = likelihood-bounds s c (All-tail IsSoftBit p s soft) (All-tail (λ b. b ≤ 1) x c bits) in
    (omega (arith, ints), omega (arith, ints))
likelihood-bounds s c soft bits = (omega (arith, ints), omega (arith, ints))

likelihood-fits : (s : List ℤ) (c : List ℕ) → AllSoftBits s → AllBits c → length s ≤ 456 → FitsSigned w32 (likelihood s c)
likelihood-fits s c soft bits few = let within = likelihood-bounds s c soft bits in fits_wide _ _ few within.0 within.1
  where
    fits_wide : (x : ℤ) (n : ℕ) → n ≤ 456 → (pos 0 -ℤ pos (127 * n)) ≤ℤ x → x ≤ℤ pos (127 * n) → FitsSigned w32 x
    fits_wide (pos m) n few low high = record { sfits = omega (arith, ints) }
    fits_wide (negsuc m) n few low high = record { sfits = omega (arith, ints) }

-- ---- lemmas about the most likely word that deviates from u in a span

module _ (pass : ViterbiPass) (u : List ℕ) (span : WordSpan) (is : IsCompletePass pass)
    (candidate : IsCandidate (soft_bits_of_pass pass) u)
    (is_span : IsSpanOfWord pass u span) where
  followed : FollowsFrom (soft_bits_of_pass pass) (decision_rows pass) (losses_of_pass pass) (deviations_in_span u span) span.from
  followed = record {
    decisions = is.decisions;
    pairs = omega arith;
    candidate = candidate;
    follows = is_span.follows;
    later = λ k h. between_from _ _ k h;
  }

  pub long : length u ≡ length (decision_rows pass)
  long = omega arith

  module _ (deviation : PossibleDeviation) (best : IsLeastLossDeviationOrNone u (losses_of_pass pass) (is_in_range span.from span.to)
      span.to
      (Some deviation)) where
    least : IsLeastLossFreePosition u (losses_of_pass pass) (is_in_range span.from span.to) (length u - 4) deviation.index
    least =
        let old = best.1 in
        let end = is_span.span_ends_before_tail in record {
          in_range = let i = old.in_range in omega arith;
          index_is_free = old.index_is_free;
          least = (λ k lt free. old.least k (between_to _ _ k free) free);
          tie_before = old.tie_before;
          tie_after = (λ k late lt free tie. old.tie_after k late (between_to span.from span.to k free) free tie);
        }

    abbrev v : List ℕ
    v = word_deviating_at u (decision_rows pass) 0 deviation.index

    pub value_is : likelihood (soft_bits_of_pass pass) (encoding v)
        ≡ span.metric -ℤ deviation.loss
    value_is =
        let value = deviation_value (soft_bits_of_pass pass) (decision_rows pass) (losses_of_pass pass) (deviations_in_span u span)
        span.from followed
        deviation.index least in
        let a = is_span.value in
        let b = best.0.loss in
        omega (arith, ints)

    pub deviation-fits : FitsSigned w32 (span.metric -ℤ deviation.loss)
    deviation-fits = rw (← value_is)
        (likelihood-fits (soft_bits_of_pass pass) (encoding v) is.soft
        (AllBits-coded v)
        (let p = is.soft_bit_count in let m = is.at_most in omega arith))

    pub best_deviation : (x : Deviation) → x.word_index ≡ span.word_index → x.point.index ≡ deviation.index →
        x.point.state ≡ deviation.state → x.point.bit ≡ get_or u deviation.index 0 →
        x.metric ≡ span.metric -ℤ deviation.loss →
        IsMostLikelyDeviation pass u span (Some x)
    best_deviation x list index state bit likely =
        let within = best.1.in_range in
        let after = between_from span.from span.to deviation.index best.1.index_is_free in
        let end = is_span.span_ends_before_tail in
        let n = long in (
          record {
            in_range = omega arith;
            follows = follows_later span.from x.point.index u (decision_rows pass) 0 is_span.follows (omega arith) (omega arith);
            value = rw index (likely ∙ sym value_is);
            state_in_range = rw (state, best.0.state) (state_after-below 0 (take deviation.index u) (omega arith));
            state = rw index (state ∙ best.0.state);
            bit = rw index bit;
          },
          list,
          omega arith,
          omega arith,
          rw index (deviation_best (soft_bits_of_pass pass) (decision_rows pass) (losses_of_pass pass)
              (deviations_in_span u span) span.from followed deviation.index least),
        )

-- ---- lemmas about the spans after the position of a deviation from u

apply_deviation : (u rows : List ℕ) (state index : ℕ) → length rows ≡ length u →
    take index (word_deviating_at u rows state index) ≡ take index u
apply_deviation (x ∷ u) [] state index same = absurd (omega arith)
apply_deviation (x ∷ u) (row ∷ rows) state (suc index) same =
    ap (λ rest. x ∷ rest) (apply_deviation u _ _ _ (omega arith))
apply_deviation u rows state index same = refl

module _ (pass : ViterbiPass) (u : List ℕ) (x : Deviation) (is : IsCompletePass pass) (candidate : IsCandidate (soft_bits_of_pass pass) u)
    (is_deviation : IsDeviation pass u x) where
  u_long : length u ≡ length (decision_rows pass)
  u_long = omega arith

  pub IsSpanOfWord-after : (old span : WordSpan) → IsSpanOfWord pass u old → x.point.index < old.to →
      span.from ≡ x.point.index + 1 → span.to ≡ old.to →
      span.metric ≡ old.metric → span.state ≡ next_trellis_state x.point.state (get_or u x.point.index 0) →
      IsSpanOfWord pass u span
  IsSpanOfWord-after old span old_is within from to likely state =
      let end = old_is.span_ends_before_tail in record {
        follows = rw from (follows_later _ _ u _ 0 is_deviation.follows (omega arith) (omega arith));
        value = likely ∙ old_is.value;
        order = omega arith;
        span_ends_before_tail = omega arith;
        state_in_range = omega arith;
        state = rw (from, state_after-more u x.point.index 0 (omega arith), ← is_deviation.state) state;
      }

  pub IsSpanOfWord-deviation : (v : List ℕ) (span : WordSpan) → v ≡ word_of_deviation pass u x →
      IsCandidate (soft_bits_of_pass pass) v →
      span.from ≡ x.point.index + 1 →
      span.to + 4 ≡ pass.bits → span.metric ≡ x.metric →
      span.state ≡ next_trellis_state x.point.state (get_or v x.point.index 0) →
      IsSpanOfWord pass v span
  IsSpanOfWord-deviation v span written v_is from to likely state =
      let n = u_long in
      record {
        follows = rw from (rw written (follows-deviation u (decision_rows pass) 0 x.point.index n (omega arith)));
        value = rw written (likely ∙ is_deviation.value);
        order = omega arith;
        span_ends_before_tail = omega arith;
        state_in_range = omega arith;
        state = state
            ∙ ap (λ s. next_trellis_state s (get_or v x.point.index 0))
            (is_deviation.state ∙ ap (state_after_bits 0)
            (sym (ap (take x.point.index) written ∙ apply_deviation u (decision_rows pass) 0 x.point.index (sym n))))
            ∙ rw from (sym (state_after-more v x.point.index 0 (omega arith)));
      }

-- The position with the least loss: in two adjacent ranges of positions, and after one more position is examined.

pub is_possible_deviation : (u : List ℕ) (losses : List (List ℤ)) (k state : ℕ) (lost : ℤ) (deviation : PossibleDeviation) →
    AllBits u →
    state ≡ state_after_bits 0 (take k u) → lost ≡ deviation_loss 0 u losses k → deviation.index ≡ k →
    deviation.state ≡ state → deviation.loss ≡ lost →
    deviation.loss_limit ≡ lost -ℤ pos (get_or u k 0) → IsPossibleDeviation u losses deviation
is_possible_deviation u losses k state lost deviation bits found is_lost at s l m = record {
  bit = bit_at-most_1 u _ bits;
  state = rw at (s ∙ found);
  loss = rw at (l ∙ is_lost);
  loss_limit = rw (at, l) m;
}

-- ---- lemmas about two adjacent ranges of positions

module _ (u : List ℕ) (losses : List (List ℤ)) (from k n index other : ℕ) (bit : get_or u index 0 ≤ 1)
    (early : IsLeastLossFreePosition u losses (is_in_range from k) k index)
    (later : IsLeastLossFreePosition u losses (is_in_range k n) n other) where
  abbrev loss : ℕ → ℤ
  loss = deviation_loss 0 u losses

  starts : from ≤ index
  starts = between_from from k index early.index_is_free

  follows : k ≤ other
  follows = between_from k n other later.index_is_free

  free_early : (j : ℕ) → j < k → is_in_range from n j ≡ true → is_in_range from k j ≡ true
  free_early j lt is_free = is_between from k j (between_from from n j is_free) lt

  low : (j : ℕ) → k ≤ j → j < n → loss other ≤ℤ loss j
  low j le lt = later.least j lt (is_between k n j le lt)

  pub least_loss-early : (loss index <ℤ loss other) ⊎ ((loss other ≡ loss index) × (get_or u index 0 ≢ 0)) →
      IsLeastLossFreePosition u losses (is_in_range from n) n index
  least_loss-early more =
      let s = starts in
      let f = follows in
      let i = early.in_range in
      let w = later.in_range in
      let within : index < n = omega arith in record {
        in_range = within;
        index_is_free = is_between from n index s within;
        least = (λ j lt is_free. elim (cases_lt j k) [
          | inl before ↦ early.least j before (free_early j before is_free)
          | inr behind ↦ let l = low j (omega arith) lt in
              elim more [ inl less ↦ omega (arith, ints) | inr tie ↦ let e = tie.0 in omega (arith, ints) ]
        ]);
        tie_before = (λ j lt is_free equal. early.tie_before j lt (free_early j (omega arith) is_free) equal);
        tie_after = (λ j late lt is_free equal. elim (cases_lt j k) [
          | inl before ↦ early.tie_after j late before (free_early j before is_free) equal
          | inr behind ↦ let l = low j (omega arith) lt in
              elim more [ inl less ↦ absurd (omega (arith, ints)) | inr tie ↦ let ne = tie.1 in omega arith ]
        ]);
      }

  pub least_loss-later : (loss other <ℤ loss index) ⊎ ((loss other ≡ loss index) × (get_or u index 0 ≡ 0)) →
      IsLeastLossFreePosition u losses (is_in_range from n) n other
  least_loss-later less =
      let s = starts in
      let f = follows in
      let i = early.in_range in
      let w = later.in_range in record {
        in_range = w;
        index_is_free = is_between from n other (omega arith) w;
        least = (λ j lt is_free. elim (cases_lt j k) [
          | inl before ↦ let l = early.least j before (free_early j before is_free) in
              elim less [ inl less ↦ omega (arith, ints) | inr tie ↦ let e = tie.0 in omega (arith, ints) ]
          | inr behind ↦ low j (omega arith) lt
        ]);
        tie_before = (λ j lt is_free equal. elim (cases_lt j k) [
          | inl before ↦ elim less [
            | inl less ↦ absurd (let l = early.least j before (free_early j before is_free) in omega (arith, ints))
            | inr tie ↦
                let is_free = free_early j before is_free in
                zero_at u index j tie.1 (λ ahead. early.tie_before j ahead is_free (equal ∙ tie.0))
                (λ late. early.tie_after j late before is_free (equal ∙ tie.0))
          ]
          | inr behind ↦ later.tie_before j lt (is_between k n j (omega arith) (omega arith)) equal
        ]);
        tie_after = (λ j late lt is_free equal. later.tie_after j late lt (is_between k n j (omega arith) lt) equal);
      }

pub alone : (u : List ℕ) (losses : List (List ℤ)) (k : ℕ) → IsLeastLossFreePosition u losses (is_in_range k (k + 1)) (k + 1) k
alone u losses k = record {
  in_range = omega arith;
  index_is_free = is_between k (k + 1) k (omega arith) (omega arith);
  least = (λ j lt is_free.
      let low = between_from k (k + 1) j is_free in
      let here : j ≡ k = omega arith in rw here (omega (arith, ints)));
  tie_before = (λ j lt is_free equal. let low = between_from k (k + 1) j is_free in absurd (omega arith));
  tie_after = (λ j late lt is_free equal. absurd (omega arith));
}

pub least_so_far-first : (u : List ℕ) (losses : List (List ℤ)) (k : ℕ) (new : LeastLossSoFar) → new.index ≡ k →
    new.state ≡ state_after_bits 0 (take k u) → new.loss_limit ≡ deviation_loss 0 u losses k -ℤ pos (get_or u k 0) →
    IsLeastLossSoFar u losses (is_in_range k (k + 1)) (k + 1) new
least_so_far-first u losses k new at state loss_limit = record {
  state = rw at state;
  loss_limit = rw at loss_limit;
  least = rw at (alone u losses k);
}

-- lemmas about the position with the least loss after one more position is examined
module _ (u : List ℕ) (losses : List (List ℤ)) (from k : ℕ) where
  pub least_so_far-new : (best new : LeastLossSoFar) → AllBits u → IsLeastLossSoFar u losses (is_in_range from k) k best →
      new.index ≡ k → new.state ≡ state_after_bits 0 (take k u) →
      new.loss_limit ≡ deviation_loss 0 u losses k -ℤ pos (get_or u k 0) →
      deviation_loss 0 u losses k ≤ℤ best.loss_limit →
      IsLeastLossSoFar u losses (is_in_range from (k + 1)) (k + 1) new
  least_so_far-new best new bits old at state loss_limit less =
      let bit = bit_at-most_1 u best.index bits in record {
        state = rw at state;
        loss_limit = rw at loss_limit;
        least = rw at (least_loss-later u losses from k (k + 1) best.index k bit old.least (alone u losses k)
            (loss_limit-below _ _ (get_or u best.index 0) bit (rw (← old.loss_limit) less)));
      }

  pub least_so_far-old : (best : LeastLossSoFar) → AllBits u → IsLeastLossSoFar u losses (is_in_range from k) k best →
      best.loss_limit <ℤ deviation_loss 0 u losses k → IsLeastLossSoFar u losses (is_in_range from (k + 1)) (k + 1) best
  least_so_far-old best bits old most =
      let bit = bit_at-most_1 u best.index bits in record {
        state = old.state;
        loss_limit = old.loss_limit;
        least = least_loss-early u losses from k (k + 1) best.index k bit old.least (alone u losses k)
            (loss_limit-not_below _ _ (get_or u best.index 0) bit (rw (← old.loss_limit) most));
      }

-- Words that agree from a position on have the same best deviation from there on.

-- ---- lemmas about words that agree from a position on

states_agree : (k j : ℕ) (u w : List ℕ) (s t : ℕ) → drop k u ≡ drop k w →
    state_after_bits s (take k u) ≡ state_after_bits t (take k w) → k ≤ length u → k ≤ length w → k ≤ j →
    state_after_bits s (take j u) ≡ state_after_bits t (take j w)
states_agree zero j u w s t rest state a b le = ap₂ (λ s u. state_after_bits s (take j u)) state rest
states_agree (suc k) zero u w s t rest state a b le = absurd (omega arith)
states_agree (suc k) (suc j) [] w s t rest state a b le = absurd (omega arith)
states_agree (suc k) (suc j) (x ∷ u) [] s t rest state a b le = absurd (omega arith)
states_agree (suc k) (suc j) (x ∷ u) (y ∷ w) s t rest state a b le =
    states_agree k j u w (next_trellis_state s x) (next_trellis_state t y) rest state (omega arith) (omega arith) (omega arith)

bits_agree : (k j : ℕ) (u w : List ℕ) → drop k u ≡ drop k w → k ≤ j → get_or u j 0 ≡ get_or w j 0
bits_agree k j u w rest le =
    let at : k + (j - k) ≡ j = omega arith in
    rw at at (sym (get_or-drop k u (j - k) 0) ∙ ap (λ l. get_or l (j - k) 0) rest ∙ get_or-drop k w (j - k) 0)

module _ (u w : List ℕ) (losses : List (List ℤ)) (k n : ℕ) (rest : drop k u ≡ drop k w)
    (state : state_after_bits 0 (take k u) ≡ state_after_bits 0 (take k w)) (in_u : k ≤ length u) (in_w : k ≤ length w) where
  same_state : (j : ℕ) → k ≤ j → state_after_bits 0 (take j u) ≡ state_after_bits 0 (take j w)
  same_state j le = states_agree k j u w 0 0 rest state in_u in_w le

  same_loss : (j : ℕ) → k ≤ j → deviation_loss 0 u losses j ≡ deviation_loss 0 w losses j
  same_loss j le = ap (λ s. get_or (get_or losses j []) s (pos 0)) (same_state j le)

  same_bit : (j : ℕ) → k ≤ j → get_or u j 0 ≡ get_or w j 0
  same_bit j le = bits_agree k j u w rest le

  pub moved : (x : PossibleDeviation) → IsPossibleDeviation w losses x →
      IsLeastLossFreePosition w losses (is_in_range k n) n x.index →
      IsLeastLossDeviationOrNone u losses (is_in_range k n) n (Some x)
  moved x is best =
      let le = between_from k n x.index best.index_is_free in (
        record {
          bit = rw (same_bit x.index le) is.bit;
          state = is.state ∙ sym (same_state x.index le);
          loss = is.loss ∙ sym (same_loss x.index le);
          loss_limit = rw (same_bit x.index le) is.loss_limit;
        },
        record {
          in_range = best.in_range;
          index_is_free = best.index_is_free;
          least = (λ j lt is_free.
              let l = best.least j lt is_free in
              let a = same_loss x.index le in
              let b = same_loss j (between_from k n j is_free) in omega (arith, ints));
          tie_before = (λ j lt is_free equal.
              let at = between_from k n j is_free in
              same_bit j at ∙ best.tie_before j lt is_free (sym (same_loss j at) ∙ equal ∙ same_loss x.index le));
          tie_after = (λ j late lt is_free equal.
              let at = between_from k n j is_free in
              same_bit x.index le ∙ best.tie_after j late lt is_free (sym (same_loss j at) ∙ equal ∙ same_loss x.index le));
        },
      )

-- ---- lemmas about a deviation from the survivor of state 0

pub IsPossibleDeviation-survivor : (rows : List ℕ) (losses : List (List ℤ)) (k state bit : ℕ) (lost : ℤ) (x : PossibleDeviation) →
    k < length rows → state ≡ state_after_bits 0 (take k (traceback rows 0)) → lost ≡ get_or (get_or losses k []) state (pos 0) →
    bit ≡ get_or rows k 0 / 2 ^ state % 2 → x.index ≡ k → x.state ≡ state → x.loss ≡ lost →
    x.loss_limit ≡ lost -ℤ pos bit → IsPossibleDeviation (traceback rows 0) losses x
IsPossibleDeviation-survivor rows losses k state bit lost x within reached is_lost is_bit at s l m =
    let u = traceback rows 0 in record {
      bit = traceback-small rows 0 x.index;
      state = rw at (s ∙ reached);
      loss = rw (at, ← reached) (l ∙ is_lost);
      loss_limit = rw (at, l, chosen_bit rows 0 k within, ← reached, ← is_bit) m;
    }

pub merged_tail : (pass : ViterbiPass) (u : List ℕ) (span : WordSpan) (m : ℕ) (x : PossibleDeviation) → IsCompletePass pass →
    IsCandidate (soft_bits_of_pass pass) u → IsSpanOfWord pass u span → pass.bits ≤ span.to + 4 → span.from ≤ m →
    m < span.to →
    state_after_bits 0 (take m u) ≡ get_or pass.tails.states m 0 → x.index ≡ get_or pass.tails.indices m 0 →
    IsPossibleDeviation (traceback (decision_rows pass) 0) (losses_of_pass pass) x →
    IsLeastLossDeviationOrNone u (losses_of_pass pass) (is_in_range m span.to) span.to (Some x)
merged_tail pass u span m x is candidate is_span last from to state index possible =
    let rows = decision_rows pass in
    let losses = losses_of_pass pass in
    let w = traceback rows 0 in
    let indices = is.row_count in
    let pairs = is.soft_bit_count in
    let count = candidate.count in
    let end = is_span.span_ends_before_tail in
    let long : length u ≡ length rows = omega arith in
    let same = length-traceback rows 0 in
    let n : length rows - 4 ≡ span.to = omega arith in
    let states : state_after_bits 0 (take m u) ≡ state_after_bits 0 (take m w) = state ∙ is.tails.states m (omega arith) in
    let rest : drop m u ≡ drop m w =
    follows-drop m u rows 0 (follows_later span.from m u rows 0 is_span.follows from (omega arith))
    ∙ ap (traceback (drop m rows)) states ∙ sym (traceback-drop rows 0 m (omega arith)) in
    let best : IsLeastLossFreePosition w losses (is_in_range m (length rows - 4)) (length rows - 4) x.index =
    rw index (is.tails.indices m (omega arith)) in
    rw (← n) (moved u w losses m (length rows - 4) rest states (omega arith) (omega arith) x possible best)
