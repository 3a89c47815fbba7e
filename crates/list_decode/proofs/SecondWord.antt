-- `second_most_likely` is the second most likely encoder input.
use Rattle.{
  bit_blocks.{proofs.Greatest.{LeadsBelow, leads}, specs.Greatest.first_greatest},
  list_decode.specs.{Ranking.IsSecondMostLikely, SecondWord.{metric_of_input, most_likely_except, other_number, second_most_likely}},
  std.proofs.{
    Common.{List, ap, arith, get_or, inl, inr, length, subst, sym, ℕ, ℤ, ◌*◌, ◌+◌, ◌-◌, ◌/◌, ◌<◌, ◌^◌},
    Common.{◌∙◌, ◌≡◌, ◌≢◌, ◌≤◌, ◌<ℤ◌, ◌⊎◌},
    Math.Nat.div-eq_of_lt,
    lemmas.{Bool.cases_lt, Nat.{pow-add, pow_pos}},
  },
  trellis_decode.{
    proofs.Lemmas.{IsEncoderInput-to_binary, lex_before-to_binary, length-to_binary, to_binary-information},
    specs.MostLikely.{most_likely, nth_input},
  },
  weight_bound.specs.conv_code.Likelihood.{IsLexicographicallyBefore, RanksAfter},
}

-- ---- inputs of equal length come in the order of their numbers

in_order : (n a b : ℕ) → a < b → 16 * b < 2 ^ n → IsLexicographicallyBefore (nth_input n a) (nth_input n b)
in_order n a b less within =
    let before : 16 * a < 2 ^ n = omega arith in
    lex_before-to_binary n _ _ (omega arith) (div-eq_of_lt before ∙ sym (div-eq_of_lt within))

apart : (n a b : ℕ) → a < b → 16 * b < 2 ^ n → nth_input n a ≢ nth_input n b
apart n a b less within same =
    let before = in_order n a b less within in
    before.differs (ap (λ w. get_or w before.place 0) (sym same) ∙ before.zero)

-- ---- the numbers except one

index_of : (count left_out number : ℕ) → left_out < count → number < count → number ≢ left_out →
    (index : ℕ) × (other_number left_out index ≡ number) × (index < count - 1)
index_of count left_out number within below other = elim (cases_lt number left_out) [
  | inl less ↦ (number, grind arith, omega arith)
  | inr more ↦ (number - 1, grind arith, omega arith)
]

other_number-differs : (left_out index : ℕ) → other_number left_out index ≢ left_out
other_number-differs left_out index same = grind arith

other_number-rises : (left_out a b : ℕ) → a < b → other_number left_out a < other_number left_out b
other_number-rises left_out a b less = grind arith

other_number-at_most : (left_out index : ℕ) → other_number left_out index ≤ index + 1
other_number-at_most left_out index = grind arith

-- ---- the second word

module _ (soft : List ℤ) (n lists best : ℕ) (pairs : length soft ≡ 2 * n) (long : 5 ≤ n) (all : 16 * lists ≡ 2 ^ n)
    (some : 2 ≤ lists)
    (within : best < lists) where
  abbrev score : ℕ → ℤ
  score index = metric_of_input soft n (other_number best index)

  abbrev chosen : ℕ
  chosen = first_greatest score (lists - 2)

  abbrev second : ℕ
  second = other_number best chosen

  leading : LeadsBelow score (lists - 1) chosen
  leading =
      let count : lists - 2 + 1 ≡ lists - 1 = omega arith in
      rw count at (leads score (lists - 2))

  second_within : 16 * second < 2 ^ n
  second_within = let at_most = other_number-at_most best chosen in omega (arith, leading.in_range)

  differs : nth_input n second ≢ nth_input n best
  differs same = elim (cases_lt second best) [
    | inl less ↦ apart n second best less (omega arith) same
    | inr more ↦
        let other : second ≢ best = other_number-differs best chosen in
        apart n best second (omega arith) second_within (sym same)
  ]

  behind : (number : ℕ) → number < lists → number ≢ best → number ≢ second →
      RanksAfter soft (nth_input n number) (nth_input n second)
  behind number below not_best not_second = go (index_of lists best number within below not_best)
    where
      placed : (index : ℕ) → (score index <ℤ score chosen) ⊎ ((score index ≡ score chosen) × (chosen < index)) →
          16 * other_number best index < 2 ^ n → RanksAfter soft (nth_input n (other_number best index)) (nth_input n second)
      placed index (inl less) below = inl less
      placed index (inr tie) below = inr (
        tie.0,
        in_order n second (other_number best index)
            (other_number-rises best chosen index tie.1) below,
      )

      go : (index : ℕ) × (other_number best index ≡ number) × (index < lists - 1) →
          RanksAfter soft (nth_input n number) (nth_input n second)
      go (index, is, lt) =
          let ne : index ≢ chosen = λ same. not_second (sym is ∙ ap (other_number best) same) in
          let room : 16 * other_number best index < 2 ^ n = subst (λ k. 16 * k < 2 ^ n) (sym is) (omega arith) in
          subst (λ k. RanksAfter soft (nth_input n k) (nth_input n second)) is (placed index (leading.others index lt ne) room)

  IsSecondMostLikely-numbered : IsSecondMostLikely soft (nth_input n best) (nth_input n second)
  IsSecondMostLikely-numbered = record {
    candidate = record { information = IsEncoderInput-to_binary n _ long; count = rw length-to_binary pairs };
    differs = differs;
    others = λ w is not_best not_second.
        let spelt = to_binary-information w is.information in
        let length_w : length w ≡ n = omega (arith, is.count) in
        let same : nth_input n spelt.0 ≡ w = ap (λ k. nth_input k spelt.0) (sym length_w) ∙ spelt.2 in
        let below = rw length_w at spelt.1 in
        rw same at (behind spelt.0 (omega arith) (λ e. not_best (sym same ∙ ap (nth_input n) e))
        (λ e. not_second (sym same ∙ ap (nth_input n) e)));
  }

pub IsSecondMostLikely-second_most_likely : (soft : List ℤ) (n : ℕ) → length soft ≡ 2 * n → 5 ≤ n →
    IsSecondMostLikely soft (most_likely soft) (second_most_likely soft)
unfolding most_likely second_most_likely
IsSecondMostLikely-second_most_likely soft n pairs long =
    let half : length soft / 2 ≡ n = omega arith in
    let parted : 2 ^ n ≡ 16 * 2 ^ (n - 4) = ap (λ k. 2 ^ k) ((omega arith)) ∙ pow-add 2 4 (n - 4) in
    let twice : 2 ^ (n - 4) ≡ 2 * 2 ^ (n - 5) = ap (λ k. 2 ^ k) ((omega arith)) ∙ pow-add 2 1 (n - 5) in
    let some = pow_pos (n - 5) in
    let first = leads (metric_of_input soft n) (2 ^ (n - 4) - 1) in
    subst (λ k. IsSecondMostLikely soft (nth_input k (first_greatest (metric_of_input soft k) (2 ^ (k - 4) - 1)))
    (most_likely_except soft k (first_greatest (metric_of_input soft k) (2 ^ (k - 4) - 1)))) (sym half)
    (IsSecondMostLikely-numbered soft n (2 ^ (n - 4)) (first_greatest (metric_of_input soft n) (2 ^ (n - 4) - 1)) pairs long
    (sym parted) (omega arith) (omega (arith, first.in_range)))
