-- The Viterbi argument and the exhaustive search.
use Rattle.{
  bit_blocks.proofs.Greatest.{LeadsBelow, leads},
  conv_code.{proofs.Lemmas.coded_from_start, specs.{bit_blocks.{Greatest.first_greatest, Bits.{AllBits, IsBit}}, Code.IsEncoderInput}},
  conv_code.specs.{Code.encoding, Likelihood.{IsLexicographicallyBefore, IsMostLikely, RanksAfter, bit_metric, likelihood}},
  std.{
    proofs.{
      Common.{List, [], ap, ap₂, arith, drop, false, get_or, inl, inr, int_lt, length, pos, refl, replicate, subst, suc, sym, take, true},
      Common.{zero, ℕ, ℤ, ◌%◌, ◌*◌, ◌++◌, ◌+ℤ◌, ◌+◌, ◌-ℤ◌, ◌-◌, ◌/◌, ◌<ℤ◌, ◌<◌, ◌^◌},
      Common.{◌∙◌, ◌∷◌, ◌≡◌, ◌≢◌, ◌≤ℤ◌, ◌≤◌},
      Math.Nat.{add-mul-div_left, div-div-eq-div-mul, div-eq_of_lt, div-lt_iff_lt-mul, eq-or-lt_of_le, pow-succ', pow-suc, zero-div},
      lemmas.{Bool.{cases_eq, cases_lt}, Int.{by_lt_z, ints}, List.{Elements.{All-cons, All-head, All-nil, All-tail}, length-drop}},
      lemmas.{List.take_all, Nat.{pow-add, pow_pos}},
    },
    specs.List.All,
  },
  trellis_decode.specs.{
    Trellis.{EqualMetricButLater, HasTailBits, IsDecision, IsNoBetterPath, IsNotLexicographicallyAfter, IsSurvivor, LessMetric},
    Trellis.{branch_metric, candidate_metric, encoding_from_state, first_coded_bit, metric_from_state, next_trellis_state},
    Trellis.{second_coded_bit, traceback},
    MostLikely.{most_likely, nth_input},
    Words.to_binary,
    SignedOctets.{AreSignedOctets, IsSignedOctet},
  },
  lanes.proofs.Lanes.each,
}

-- ## Likelihoods: How one more soft bit changes the path metric.

pub likelihood-more : (s : List ℤ) (c : List ℕ) (k : ℕ) → k < length s → k < length c →
    likelihood (take (suc k) s) (take (suc k) c) ≡ likelihood (take k s) (take k c) +ℤ bit_metric (get_or s k (pos 0)) (get_or c k 0)
likelihood-more (p ∷ s) (x ∷ c) zero hs hc = omega (arith, ints)
likelihood-more (p ∷ s) (x ∷ c) (suc k) hs hc =
    omega (arith, ints, likelihood-more s c k (omega arith) (omega arith))
likelihood-more s c k hs hc = absurd (omega arith)

-- ## Paths: Viterbi's argument about survivors, applied backward: the survivor of a state is the better of two candidates, each a first bit
-- followed by the survivor of the next state. Bit 0 wins a tie, so the survivor is the first in lexicographic order.

pub metric_from_state-cons : (state x : ℕ) (u : List ℕ) (pair soft : List ℤ) → length pair ≡ 2 →
    metric_from_state state (x ∷ u) (pair ++ soft) ≡ branch_metric state x pair +ℤ metric_from_state (next_trellis_state state x) u
    soft
unfolding metric_from_state branch_metric
metric_from_state-cons state x u (p ∷ q ∷ []) soft e = omega (arith, ints)
metric_from_state-cons state x u pair soft e = absurd (omega arith)

pub length-traceback : (rows : List ℕ) (state : ℕ) → length (traceback rows state) ≡ length rows
length-traceback [] state = refl
length-traceback (row ∷ rows) state = ap suc (length-traceback rows _)

pub lex_not_after-refl : (u : List ℕ) → IsNotLexicographicallyAfter u u
lex_not_after-refl [] = tt
lex_not_after-refl (x ∷ u) = inr (refl, lex_not_after-refl u)

pub IsNoBetterPath-same : (state x : ℕ) (v u : List ℕ) (pair soft : List ℤ) → length pair ≡ 2 →
    IsNoBetterPath (next_trellis_state state x) soft v u → IsNoBetterPath state (pair ++ soft) (x ∷ v) (x ∷ u)
IsNoBetterPath-same state x v u pair soft e (LessMetric h) =
    LessMetric (omega (arith, ints, metric_from_state-cons state x v pair soft e, metric_from_state-cons state x u pair soft e))
IsNoBetterPath-same state x v u pair soft e (EqualMetricButLater h after) =
    EqualMetricButLater (omega (arith, ints, metric_from_state-cons state x v pair soft e, metric_from_state-cons state x u pair soft e))
    (inr (refl, after))

candidate-bound : (after pair soft : List ℤ) (state bit : ℕ) (u v : List ℕ) → length pair ≡ 2 →
    IsSurvivor (next_trellis_state state bit) u soft (get_or after (next_trellis_state state bit) (pos 0)) → HasTailBits v
    → length v ≡ length u →
    metric_from_state state (bit ∷ v) (pair ++ soft) ≤ℤ candidate_metric after pair state bit
unfolding candidate_metric
candidate-bound after pair soft state bit u v e best ends count =
    let g = metric_from_state-cons state bit v pair soft e in
    elim (best.no_other_path_is_better v ends count) [
      | LessMetric h ↦ omega (arith, ints)
      | EqualMetricButLater h later ↦ omega (
        arith,
        ints,
      )
    ]

pub candidate-survivor : (after pair soft : List ℤ) (state bit : ℕ) (u : List ℕ) → length pair ≡ 2 →
    IsSurvivor (next_trellis_state state bit) u soft (get_or after (next_trellis_state state bit) (pos 0)) →
    candidate_metric after pair state bit ≡ metric_from_state state (bit ∷ u) (pair ++ soft)
unfolding candidate_metric
candidate-survivor after pair soft state bit u e best = omega (arith, ints, metric_from_state-cons state bit u pair soft e)

-- given the survivors of both next states, the survivor of a state begins with the bit that has the greater candidate metric, or with bit 0
-- on a tie
module _ (after pair soft : List ℤ) (state : ℕ) (zeros ones : List ℕ) (e : length pair ≡ 2) (same : length ones ≡ length zeros)
    (best0 : IsSurvivor (next_trellis_state state 0) zeros soft (get_or after (next_trellis_state state 0) (pos 0)))
    (best1 : IsSurvivor (next_trellis_state state 1) ones soft (get_or after (next_trellis_state state 1) (pos 0))) where
  zero_wins : (candidate_metric after pair state 1) ≤ℤ (candidate_metric after pair state 0) → (v : List ℕ) → HasTailBits v →
      length v ≡ suc (length zeros) → IsNoBetterPath state (pair ++ soft) v (0 ∷ zeros)
  zero_wins h (zero ∷ v) ends count = IsNoBetterPath-same _ 0 v _ _ _ e (best0.no_other_path_is_better v ends.2 (omega arith))
  zero_wins h (suc zero ∷ v) ends count =
      let bound = candidate-bound after pair soft state 1 ones v e best1 ends.2 (omega arith) in
      let value = candidate-survivor after pair soft state 0 zeros e best0 in
      by_lt_z (metric_from_state _ _ _) (metric_from_state _ _ (pair ++ soft))
      LessMetric (λ not_less. EqualMetricButLater (omega (arith, ints)) (inl (omega arith)))
  zero_wins h v ends count = absurd (omega arith)

  one_wins : (candidate_metric after pair state 0) <ℤ (candidate_metric after pair state 1) → (v : List ℕ) → HasTailBits v →
      length v ≡ suc (length ones) → IsNoBetterPath state (pair ++ soft) v (1 ∷ ones)
  one_wins h (zero ∷ v) ends count =
      let bound = candidate-bound after pair soft state 0 zeros v e best0 ends.2 (omega arith) in
      LessMetric (omega (arith, ints, candidate-survivor after pair soft state 1 ones e best1))
  one_wins h (suc zero ∷ v) ends count = IsNoBetterPath-same _ 1 v _ _ _ e (best1.no_other_path_is_better v ends.2 (omega arith))
  one_wins h v ends count = absurd (omega arith)

pub IsSurvivor-bit : (after pair soft : List ℤ) (state bit : ℕ) (lists : ℕ → List ℕ) (value : ℤ) → length pair ≡ 2 →
    4 ≤ length (lists (next_trellis_state state 1))
    → length (lists (next_trellis_state state 1)) ≡ length (lists (next_trellis_state state 0)) →
    IsSurvivor (next_trellis_state state 0) (lists (next_trellis_state state 0)) soft (get_or after (next_trellis_state state 0) (pos 0))
    →
    IsSurvivor (next_trellis_state state 1) (lists (next_trellis_state state 1)) soft (get_or after (next_trellis_state state 1) (pos 0))
    →
    IsDecision after pair state value bit →
    IsSurvivor state (bit ∷ lists (next_trellis_state state bit)) (pair ++ soft) value
IsSurvivor-bit after pair soft state bit lists value e free same best0 best1 choice =
    let zeros = lists _ in
    let ones = lists (next_trellis_state state 1) in
    let BestAt : ℕ → Type 0 = λ bit. IsSurvivor state (bit ∷ lists (next_trellis_state state bit)) (pair ++ soft) value in
    elim choice [
      | inl h ↦ subst BestAt (sym h.0) (record {
        has_metric = h.1 ∙ candidate-survivor after pair soft state 0 zeros e best0;
        tail_bits = (omega arith, (λ _. refl), best0.tail_bits);
        no_other_path_is_better = zero_wins after pair soft state zeros ones e same best0 best1 h.2;
      })
      | inr h ↦ subst BestAt (sym h.0) (record {
        has_metric = h.1 ∙ candidate-survivor after pair soft state 1 ones e best1;
        tail_bits = (omega arith, (λ short. absurd (omega arith)), best1.tail_bits);
        no_other_path_is_better = one_wins after pair soft state zeros ones e same best0 best1 h.2;
      })
    ]

pub IsSurvivor-more : (after pair soft : List ℤ) (state row : ℕ) (rows : List ℕ) (value : ℤ) → length pair ≡ 2 →
    4 ≤ length rows → IsSurvivor (next_trellis_state state 0) (traceback rows (next_trellis_state state 0)) soft
    (get_or after (next_trellis_state state 0) (pos 0)) →
    IsSurvivor (next_trellis_state state 1) (traceback rows (next_trellis_state state 1)) soft
    (get_or after (next_trellis_state state 1) (pos 0)) →
    IsDecision after pair state value (row / 2 ^ state % 2) → IsSurvivor state (traceback (row ∷ rows) state) (pair ++ soft) value
IsSurvivor-more after pair soft state row rows value e free =
    let count0 = length-traceback rows (next_trellis_state state 0) in
    let count1 = length-traceback rows (next_trellis_state state 1) in
    IsSurvivor-bit after pair soft state (row / 2 ^ state % 2) (traceback rows) value e (omega arith) (count1 ∙ sym count0)

pub IsSurvivor-tail_bit : (after pair soft : List ℤ) (state : ℕ) (u : List ℕ) → length pair ≡ 2 → length u < 4 →
    IsSurvivor (next_trellis_state state 0) u soft (get_or after (next_trellis_state state 0) (pos 0)) →
    IsSurvivor state (0 ∷ u) (pair ++ soft) (candidate_metric after pair state 0)
IsSurvivor-tail_bit after pair soft state u e closing best = record {
  has_metric = candidate-survivor _ _ _ _ 0 u e best;
  tail_bits = (omega arith, (λ _. refl), best.tail_bits);
  no_other_path_is_better = closing_wins;
} where
  closing_wins : (v : List ℕ) → HasTailBits v → length v ≡ suc (length u) → IsNoBetterPath state (pair ++ soft) v (0 ∷ u)
  closing_wins (x ∷ v) ends count =
      rw (ends.1 (omega arith)) (IsNoBetterPath-same _ 0 v u _ _ e (best.no_other_path_is_better v ends.2 (omega arith)))
  closing_wins v ends count = absurd (omega arith)

pub IsSurvivor-none : (state : ℕ) → IsSurvivor state [] [] (pos 0)
unfolding metric_from_state
IsSurvivor-none state = record { has_metric = refl; tail_bits = tt; no_other_path_is_better = none } where
  none : (v : List ℕ) → HasTailBits v → length v ≡ 0 → IsNoBetterPath state [] v []
  none [] ends count = EqualMetricButLater refl tt
  none _ ends count = absurd (omega arith)

-- ---- lemmas about bounds of the path metric, since soft bits are signed octets

pub likelihood_bound : (soft : List ℤ) (c : List ℕ) → AreSignedOctets soft → AllBits c →
    ((pos 0 -ℤ pos (128 * length soft)) ≤ℤ likelihood soft c) × (likelihood soft c ≤ℤ pos (128 * length soft))
likelihood_bound [] c octets bits = omega (arith, ints)
likelihood_bound (p ∷ s) [] octets bits = omega (arith, ints)
likelihood_bound (p ∷ s) (zero ∷ c) octets bits =
    omega (
      arith,
      ints,
      All-head IsSignedOctet p s octets,
      likelihood_bound s c (All-tail IsSignedOctet p s octets) (All-tail IsBit 0 c bits),
    )
likelihood_bound (p ∷ s) (suc zero ∷ c) octets bits =
    omega (
      arith,
      ints,
      All-head IsSignedOctet p s octets,
      likelihood_bound s c (All-tail IsSignedOctet p s octets) (All-tail IsBit 1 c bits),
    )
likelihood_bound (p ∷ s) (suc (suc x) ∷ c) octets bits = absurd (omega (arith, All-head IsBit (suc (suc x)) c bits))

pub AllBits-encoding_from_state : (state : ℕ) (u : List ℕ) → AllBits (encoding_from_state state u)
AllBits-encoding_from_state state [] = All-nil _
AllBits-encoding_from_state state (x ∷ u) =
    All-cons IsBit (first_coded_bit state x) (second_coded_bit state x ∷ encoding_from_state (next_trellis_state state x) u) (omega arith)
    (All-cons IsBit (second_coded_bit state x) _ (omega arith) (AllBits-encoding_from_state (next_trellis_state state x) u))

pub IsSurvivor-same : (s : ℕ) {u u' : List ℕ} {soft soft' : List ℤ} {value value' : ℤ} → u ≡ u' → soft ≡ soft' →
    value ≡ value' → IsSurvivor s u soft value → IsSurvivor s u' soft' value'
IsSurvivor-same s eu es ev best = grind arith

pub IsSurvivor-to_end : (s n : ℕ) (u : List ℕ) (soft : List ℤ) (value : ℤ) →
    IsSurvivor s u (take (length soft - n) (drop n soft)) value → IsSurvivor s u (drop n soft) value
IsSurvivor-to_end s n u soft value best = rw (← take_all (length soft - n) (drop n soft) (omega (arith, length-drop n soft))) best

pub traceback-zeros : (rows : List ℕ) (state : ℕ) → All (λ row. row ≡ 0) rows →
    traceback rows state ≡ replicate (length rows) 0
traceback-zeros [] state zeros = refl
traceback-zeros (row ∷ rows) state zeros =
    let bit : row / 2 ^ state % 2 ≡ 0 = ap (λ row. row / 2 ^ state % 2) (All-head (λ row. row ≡ 0) _ _ zeros)
    ∙ ap (λ x. x % 2) (zero-div _) in cc (bit, traceback-zeros rows _ (All-tail (λ row. row ≡ 0) row _ zeros))

pub traceback-tail_rows : (rows : List ℕ) (state : ℕ) → length rows ≡ 4 → All (λ row. row ≡ 0) rows →
    replicate 4 0 ≡ traceback rows state
traceback-tail_rows rows state four zeros = cc (four, traceback-zeros _ _ zeros)

-- ## Lists: The survivor of state 0 is the most likely encoder input, since the encoder starts in state 0.

pub metric_from_state-start : (soft : List ℤ) (u : List ℕ) → AllBits u → metric_from_state 0 u soft ≡ likelihood soft (encoding u)
unfolding metric_from_state
metric_from_state-start soft u bits = ap (likelihood soft) (sym (coded_from_start u bits))

pub HasTailBits-from_tail : (u : List ℕ) → AllBits u → All (λ bit. bit ≡ 0) (drop (length u - 4) u) → HasTailBits u
HasTailBits-from_tail [] bits tail = tt
HasTailBits-from_tail (x ∷ u) bits tail = (
  All-head IsBit x u bits,
  (λ short. let all : suc (length u) - 4 ≡ 0 = omega arith in All-head (λ bit. bit ≡ 0) x u (rw all at tail)),
  HasTailBits-from_tail u (All-tail IsBit x u bits) (elim (cases_lt (length u) 4) [
    | inl short ↦
        let all : suc (length u) - 4 ≡ 0 = omega arith in
        let all' : length u - 4 ≡ 0 = omega arith in
        rw all' (All-tail (λ bit. bit ≡ 0) x u (rw all at tail))
    | inr long ↦ let one_more : suc (length u) - 4 ≡ suc (length u - 4) = omega arith in rw one_more at tail
  ]),
)

pub HasTailBits-bits : (u : List ℕ) → HasTailBits u → AllBits u
HasTailBits-bits [] ends = All-nil _
HasTailBits-bits (x ∷ u) ends = All-cons IsBit x u ends.0 (HasTailBits-bits u ends.2)

HasTailBits-tail : (u : List ℕ) → HasTailBits u → All (λ bit. bit ≡ 0) (drop (length u - 4) u)
HasTailBits-tail [] ends = All-nil _
HasTailBits-tail (x ∷ u) ends =
    let rest = HasTailBits-tail u ends.2 in
    elim (cases_lt (length u) 4) [
      | inl short ↦
          let all : suc (length u) - 4 ≡ 0 = omega arith in
          let all' : length u - 4 ≡ 0 = omega arith in
          rw all (All-cons (λ bit. bit ≡ 0) x u (ends.1 short) (rw all' at rest))
      | inr long ↦ let one_more : suc (length u) - 4 ≡ suc (length u - 4) = omega arith in rw one_more rest
    ]

pub IsEncoderInput-ends : (u : List ℕ) → 5 ≤ length u → HasTailBits u → IsEncoderInput u
IsEncoderInput-ends u count ends = record { count = count; bits = HasTailBits-bits u ends; tail = HasTailBits-tail u ends }

pub lex_before-not_after : (u v : List ℕ) → AllBits v → length v ≡ length u → IsNotLexicographicallyAfter u v →
    v ≢ u → IsLexicographicallyBefore u v
lex_before-not_after [] [] bits count h ne = absurd (ne refl)
lex_before-not_after (x ∷ u) (y ∷ v) bits count (inl less) ne =
    let bit : y ≤ 1 = All-head IsBit y v bits in
    record { place = 0; in_range = omega arith; equal_before = λ j lt. absurd (omega arith); zero = omega arith; differs = omega arith }
lex_before-not_after (x ∷ u) (y ∷ v) bits count (inr rest) ne =
    let tail = lex_before-not_after u v (All-tail IsBit y v bits) (omega arith) rest.1 (λ e. ne (ap₂ (λ z w. z ∷ w)
    (sym rest.0) e)) in
    record { place = suc tail.place; in_range = omega arith; equal_before = same tail; zero = tail.zero; differs = tail.differs }
  where
    same : (tail : IsLexicographicallyBefore u v) (j : ℕ) → j < suc tail.place → get_or (x ∷ u) j 0 ≡ get_or (y ∷ v) j 0
    same tail zero lt = rest.0
    same tail (suc j) lt = tail.equal_before j (omega arith)
lex_before-not_after u v bits count h ne = absurd (omega arith)

pub IsMostLikely-best : (soft : List ℤ) (u : List ℕ) (value : ℤ) → 5 ≤ length u → length soft ≡ 2 * length u →
    IsSurvivor 0 u soft value → IsMostLikely soft u
IsMostLikely-best soft u value count pairs best = record {
  information = IsEncoderInput-ends u count best.tail_bits;
  count = pairs;
  others = others;
} where
  others : (v : List ℕ) → IsEncoderInput v → length v ≡ length u → v ≢ u → RanksAfter soft v u
  others v information count ne =
      let gu = metric_from_state-start soft u (HasTailBits-bits u best.tail_bits) in
      let gv = metric_from_state-start soft v information.bits in
      elim (best.no_other_path_is_better v (HasTailBits-from_tail v information.bits information.tail) count) [
        | LessMetric h ↦ inl (rw (← gu, ← gv) h)
        | EqualMetricButLater h after ↦ inr (sym gv ∙ h ∙ gu, lex_before-not_after u v information.bits count after ne)
      ]

pub likelihood-best : (soft : List ℤ) (u : List ℕ) (value : ℤ) → IsSurvivor 0 u soft value →
    value ≡ likelihood soft (encoding u)
likelihood-best soft u value best = best.has_metric ∙ metric_from_state-start _ u (HasTailBits-bits u best.tail_bits)

-- ## WordLists: All encoder inputs in lexicographic order. The number of a bit list is the binary number that its bits form.

pub length-to_binary : (n number : ℕ) → length (to_binary n number) ≡ n
length-to_binary zero number = refl
length-to_binary (suc n) number = ap suc (length-to_binary n _)

pub get_or-to_binary : (n number k j : ℕ) → k + j + 1 ≡ n → get_or (to_binary n number) k 0 ≡ number / 2 ^ j % 2
get_or-to_binary zero number k j e = absurd (omega arith)
get_or-to_binary (suc n) number zero j e = ap (λ j. number / 2 ^ j % 2) (omega arith)
get_or-to_binary (suc n) number (suc k) j e = get_or-to_binary n _ k j (omega arith)

drop-to_binary : (n number k m : ℕ) → k + m ≡ n → drop k (to_binary n number) ≡ to_binary m number
drop-to_binary n number zero m e = ap (λ n. to_binary n number) (omega arith)
drop-to_binary zero number (suc k) m e = absurd (omega arith)
drop-to_binary (suc n) number (suc k) m e = drop-to_binary n _ k m (omega arith)

AllBits-to_binary : (n number : ℕ) → AllBits (to_binary n number)
AllBits-to_binary zero number = All-nil _
AllBits-to_binary (suc n) number =
    All-cons IsBit (number / 2 ^ n % 2) _ (omega arith) (AllBits-to_binary n _)

pub IsEncoderInput-to_binary : (n number : ℕ) → 5 ≤ n → IsEncoderInput (to_binary n (16 * number))
IsEncoderInput-to_binary n number long = record {
  count = rw length-to_binary long;
  bits = AllBits-to_binary n _;
  tail = rw (length-to_binary, drop-to_binary n (16 * number) (n - 4) 4 (omega arith)) last_four;
} where
  last_four : All (λ bit. bit ≡ 0) (to_binary 4 (16 * number))
  last_four k d = each (λ k. get_or (to_binary 4 (16 * number)) k d ≡ 0) 4 (omega arith) k

to_binary-high : (n r x : ℕ) → to_binary n (r + 2 ^ n * x) ≡ to_binary n r
to_binary-high zero r x = refl
to_binary-high (suc n) r x =
    let doubled : r + 2 ^ suc n * x ≡ r + 2 ^ n * (2 * x) = rw (pow-succ') (omega arith) in
    let half = add-mul-div_left r (2 * x) (pow_pos n) in
    ap (to_binary (suc n)) doubled ∙ ap₂ (λ bit rest. bit ∷ rest) (rw half (omega arith)) (to_binary-high n r _)

as_binary : (v : List ℕ) → AllBits v → (number : ℕ) × (number < 2 ^ length v) × (to_binary (length v) number ≡ v)
as_binary [] bits = (0, omega arith, refl)
as_binary (x ∷ v) bits =
    let rest = as_binary v (All-tail IsBit x v bits) in
    let r = rest.0 in
    let power = 2 ^ length v in
    let small : r < power = rest.1 in
    let x_bit : x ≤ 1 = All-head IsBit x v bits in
    let head : (r + power * x) / power % 2 ≡ x = rw (add-mul-div_left r x (pow_pos (length v)), div-eq_of_lt) (omega arith) in (
      r + power * x,
      rw (pow-succ') (below_twice r _ x small x_bit),
      ap₂ (λ bit rest. bit ∷ rest) head (to_binary-high _ r x ∙ rest.2),
    )
  where
    below_twice : (r power x : ℕ) → r < power → x ≤ 1 → r + power * x < 2 * power
    below_twice r power zero small bit = omega arith
    below_twice r power (suc zero) small bit = omega arith
    below_twice r power x small bit = absurd (omega arith)

div-le : (a b power : ℕ) → 0 < power → a ≤ b → a / power ≤ b / power
div-le a b power above le = elim (cases_lt (b / power) (a / power)) [
  | inl less ↦
      let reached = (div-lt_iff_lt-mul above).0 less in
      absurd (omega arith)
  | inr fine ↦ fine
]

pub lex_before-to_binary : (n a b : ℕ) → a < b → a / 2 ^ n ≡ b / 2 ^ n →
    IsLexicographicallyBefore (to_binary n a) (to_binary n b)
lex_before-to_binary zero a b less same = absurd (omega arith)
lex_before-to_binary (suc n) a b less same =
    let halves : a / 2 ^ n / 2 ≡ b / 2 ^ n / 2 =
    cc (div-div-eq-div-mul a _ 2, pow-suc 2 n, same, pow-suc 2 n, div-div-eq-div-mul b _ 2) in
    elim (eq-or-lt_of_le (div-le a b _ (pow_pos n) (omega arith))) [
      | inl equal ↦ later (ap (λ q. q % 2) equal) (lex_before-to_binary n a b less equal)
      | inr above ↦
          record {
            place = 0;
            in_range = omega arith;
            equal_before = (λ j lt. absurd (omega arith));
            zero = omega arith;
            differs = (λ e. omega arith);
          }
    ]
  where
    same_places : a / 2 ^ n % 2 ≡ b / 2 ^ n % 2 → (rest : IsLexicographicallyBefore (to_binary n a) (to_binary n b)) → (j : ℕ) →
        j < suc rest.place → get_or (to_binary (suc n) a) j 0 ≡ get_or (to_binary (suc n) b) j 0
    same_places head rest zero lt = head
    same_places head rest (suc j) lt = rest.equal_before j (omega arith)

    later : a / 2 ^ n % 2 ≡ b / 2 ^ n % 2 → IsLexicographicallyBefore (to_binary n a) (to_binary n b) →
        IsLexicographicallyBefore (to_binary (suc n) a) (to_binary (suc n) b)
    later head rest = record {
      place = suc _;
      in_range = omega arith;
      equal_before = same_places head rest;
      zero = rest.zero;
      differs = rest.differs;
    }

-- the bits of each encoder input form a multiple of 16, since the last four are 0
pub to_binary-information : (v : List ℕ) → IsEncoderInput v →
    (number : ℕ) × (16 * number < 2 ^ length v) × (to_binary (length v) (16 * number) ≡ v)
to_binary-information v h =
    let spelt = as_binary v h.bits in
    let number = spelt.0 in
    let last_four : drop (length v - 4) v ≡ to_binary 4 number =
    ap (drop (length v - 4)) (sym spelt.2) ∙ drop-to_binary (length v) number (length v - 4) 4 (omega arith) in
    let zeros : All (λ bit. bit ≡ 0) (to_binary 4 number) = subst (All (λ bit. bit ≡ 0)) last_four h.tail in
    let sixteen : 16 * (number / 16) ≡ number =
    omega (arith, zeros 0 0 (omega arith), zeros 1 0 (omega arith), zeros 2 0 (omega arith), zeros 3 0 (omega arith)) in
    (number / 16, rw sixteen spelt.1, ap (to_binary (length v)) sixteen ∙ spelt.2)

-- ## Searching: The exhaustive search keeps the most likely encoder input so far, and the first of equally likely ones.

pub less_by_test : (a b x y : ℤ) → a ≡ x → b ≡ y → int_lt a b ≡ true → x <ℤ y
less_by_test a b x y ex ey test = grind arith

pub most_by_test : (a b x y : ℤ) → a ≡ x → b ≡ y → int_lt a b ≡ false → y ≤ℤ x
most_by_test a b x y ex ey test = grind arith

abbrev pub nth_likelihood : List ℤ → ℕ → ℕ → ℤ
nth_likelihood soft n m = likelihood soft (encoding (nth_input n m))

abbrev pub RanksBehind : List ℤ → ℕ → ℕ → ℕ → Type 0
RanksBehind soft n m k = RanksAfter soft (nth_input n m) (nth_input n k)

module _ (soft : List ℤ) (n chosen number : ℕ) (before : chosen < number) (within : 16 * number < 2 ^ n)
    (others : (m : ℕ) → m < number → m ≢ chosen → RanksBehind soft n m chosen) where
  pub RanksBehind-new : nth_likelihood soft n chosen <ℤ nth_likelihood soft n number → (m : ℕ) → m < number + 1 → m ≢ number →
      RanksBehind
      soft n m number
  RanksBehind-new more m lt ne =
      elim (cases_eq m chosen) [ inl same ↦ inl (rw same more) | inr other ↦ behind (others m (omega arith) other) ]
    where
      behind : RanksBehind soft n m chosen → RanksBehind soft n m number
      behind (inl less) = inl (omega (arith, ints))
      behind (inr same) = inl (omega (arith, ints))

  pub RanksBehind-old : nth_likelihood soft n number ≤ℤ nth_likelihood soft n chosen → (m : ℕ) → m < number + 1 → m ≢ chosen
      → RanksBehind soft n m chosen
  RanksBehind-old most m lt ne = elim (cases_lt m number) [
    | inl earlier ↦ others m earlier ne
    | inr last ↦
        let e : m ≡ number = omega arith in
        rw e (by_lt_z (nth_likelihood soft n number) (nth_likelihood soft n chosen) inl (λ not_less. inr (omega (arith, ints), later)))
  ] where
    later : IsLexicographicallyBefore (nth_input n chosen) (nth_input n number)
    later =
        let chosen_within : 16 * chosen < 2 ^ n = omega arith in
        lex_before-to_binary n _ _ (omega arith) (div-eq_of_lt chosen_within ∙ sym (div-eq_of_lt within))

pub IsMostLikely-chosen : (soft : List ℤ) (n chosen lists : ℕ) → 5 ≤ n → length soft ≡ 2 * n → 16 * lists ≡ 2 ^ n →
    ((m : ℕ) → m < lists → m ≢ chosen → RanksBehind soft n m chosen) →
    IsMostLikely soft (nth_input n chosen)
IsMostLikely-chosen soft n chosen lists long pairs all others = record {
  information = IsEncoderInput-to_binary n _ long;
  count = rw length-to_binary pairs;
  others = every;
} where
  every : (v : List ℕ) → IsEncoderInput v → length v ≡ length (nth_input n chosen) → v ≢ nth_input n chosen →
      RanksAfter soft v (nth_input n chosen)
  every v information count ne =
      let spelt = to_binary-information v information in
      let m = spelt.0 in
      let long : length v ≡ n = count ∙ length-to_binary n _ in
      let is : nth_input n m ≡ v = ap (λ n. nth_input n m) (sym long) ∙ spelt.2 in
      let below : 16 * m < 2 ^ n = rw (← long) spelt.1 in
      rw (← is) (others m (omega arith) (λ same. ne (sym is ∙ ap (λ m. nth_input n m) same)))

-- ## Existence: For any soft bits, a most likely encoder input exists: the first with the greatest path metric.

pub RanksBehind-leads : (soft : List ℤ) (n number chosen : ℕ) → 16 * number ≤ 2 ^ n →
    LeadsBelow (nth_likelihood soft n) number chosen →
    (m : ℕ) → m < number → m ≢ chosen → RanksBehind soft n m chosen
RanksBehind-leads soft n number chosen headroom leads m lt ne = elim (leads.others m lt ne) [
  | inl less ↦ inl less
  | inr tie ↦
      let chosen_within : 16 * chosen < 2 ^ n = omega (arith, leads.in_range) in
      let within : 16 * m < 2 ^ n = omega arith in
      inr (tie.0, lex_before-to_binary n _ _ (omega (arith, tie.1)) (div-eq_of_lt chosen_within ∙ sym (div-eq_of_lt within)))
]

pub IsMostLikely-most_likely : (soft : List ℤ) (n : ℕ) → length soft ≡ 2 * n → 5 ≤ n → IsMostLikely soft (most_likely soft)
unfolding most_likely
IsMostLikely-most_likely soft n pairs long =
    let half : length soft / 2 ≡ n = omega arith in
    let parted : 2 ^ n ≡ 16 * 2 ^ (n - 4) =
    ap (λ k. 2 ^ k) ((omega arith)) ∙ pow-add 2 4 (n - 4) in
    let some : 0 < 2 ^ (n - 4) = pow_pos (n - 4) in
    let lists : ℕ = 2 ^ (n - 4) in
    let chosen = first_greatest (nth_likelihood soft n) (lists - 1) in
    let found = RanksBehind-leads soft n (lists - 1 + 1) chosen (omega arith) (leads (nth_likelihood soft n) (lists - 1)) in
    subst (λ k. IsMostLikely soft (nth_input k (first_greatest (nth_likelihood soft k) (2 ^ (k - 4) - 1)))) (sym half)
    (IsMostLikely-chosen soft n chosen lists long pairs (sym parted) (λ m h ne. found m (omega arith) ne))

pub some_most_likely : (soft : List ℤ) (n : ℕ) → length soft ≡ 2 * n → 5 ≤ n →
    (u : List ℕ) × IsMostLikely soft u × (length u ≡ n)
some_most_likely soft n pairs long =
    let is = IsMostLikely-most_likely soft n pairs long in
    (most_likely soft, is, omega (arith, is.count))
