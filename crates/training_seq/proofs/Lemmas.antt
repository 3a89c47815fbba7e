-- Correlations with the training sequences, and the greatest of them.
use Rattle.{
  lanes.proofs.Lanes.{cast_lanes-each, lanewise-at, length-lanewise},
  bit_blocks.specs.{Bits.{AllBits, IsBit}, Greatest.first_greatest, SoftValues.{bit_metric, count_wrong_bits, likelihood}},
  std.{
    proofs.{
      Common.{Bool, List, [], ap, ap₂, arith, drop, eqb, get_or, inl, inr, leb, length, map, negsuc, of_z, pos, refl, replicate, rules},
      Common.{suc, sym, tests, to_z, w16, zero, ℕ, ℤ, ◌%◌, ◌*ℤ◌, ◌*◌, ◌+ℤ◌, ◌+◌, ◌<◌, ◌^◌, ◌∙◌},
      Common.{◌∷◌, ◌≡◌, ◌≤◌},
      lemmas.{Bool.cases_eq, Int.{int_wrap_fits, ints, to_z-of_z, wrapping_add-bits, wrapping_mul_is}, List.Elements.{All-head, All-tail}},
      lemmas.List.{Sums.AllPass-from_list_all, drop_more, get_or-map},
    },
    specs.{Int.int_wrap, List.list_all},
  },
  training_seq.specs.{
    Choice.{IsFirstMaximum, total_correlation},
    Ranges.IsMagnitudeWithin,
    Sequences.{midamble, training_sequences},
    Sums.{sign_of_bit, signs_of_bits, vector_sum, wrong_bits_at},
  },
}
use lib.Lanes.{zip2}
pub use Rattle.bit_blocks.proofs.Greatest.{LeadsBelow, LeadsBelow-kept, LeadsBelow-overtaken, leads}

-- ## SequenceTable: Properties of the eight training sequences, checked by computation.

abbrev are_bits : List ℕ → Bool
are_bits bits = list_all (λ bit. leb bit 1) bits

pub length-midamble : (tsc : ℕ) → tsc ≤ 7 → length (midamble tsc) ≡ 26
length-midamble tsc h =
    let within : tsc < length training_sequences = omega arith in
    let found = AllPass-from_list_all (λ bits. eqb (length bits) 26) training_sequences refl tsc [] within in
    search (rules, tests)

pub AllBits-midamble : (tsc : ℕ) → tsc ≤ 7 → AllBits (midamble tsc)
AllBits-midamble tsc h k d lt =
    let within : tsc < length training_sequences = omega arith in
    let found = AllPass-from_list_all are_bits training_sequences refl tsc [] within in
    let bit = AllPass-from_list_all (λ bit. leb bit 1) (midamble tsc) found k d lt in
    search (rules, tests)

sign-small : (bit : ℕ) → bit ≤ 1 → IsMagnitudeWithin 1 (sign_of_bit bit)
sign-small zero h = omega (arith, ints)
sign-small (suc zero) h = omega (arith, ints)
sign-small bit h = absurd (omega arith)

pub sign_at : (bits : List ℕ) (i : ℕ) → i < length bits → get_or (signs_of_bits bits) i (pos 0) ≡ sign_of_bit (get_or bits i 0)
sign_at [] i h = absurd (omega (arith, h))
sign_at (bit ∷ bits) zero h = refl
sign_at (bit ∷ bits) (suc i) h = sign_at bits i (omega (arith, h))

pub sign_in_row : (tsc i : ℕ) → tsc ≤ 7
    → get_or (map (λ bits. sign_of_bit (get_or bits i 0)) training_sequences) tsc (pos 0) ≡ sign_of_bit (get_or (midamble tsc) i 0)
sign_in_row tsc i h = get_or-map (λ bits. sign_of_bit (get_or bits i 0)) training_sequences tsc [] (pos 0) (omega arith)

pub small_in_row : (tsc i : ℕ) → tsc ≤ 7 → i < 26 → IsMagnitudeWithin 1 (sign_of_bit (get_or (midamble tsc) i 0))
small_in_row tsc i h lt =
    sign-small (get_or (midamble tsc) i 0) (AllBits-midamble tsc h i 0 (omega (arith, lt, length-midamble tsc h)))

pub small_sign : (tsc i : ℕ) → tsc ≤ 7 → i < 26 → IsMagnitudeWithin 1 (get_or (signs_of_bits (midamble tsc)) i (pos 0))
small_sign tsc i h lt =
    rw (sign_at (midamble tsc) i (omega (arith, lt, length-midamble tsc h))) (small_in_row tsc i h lt)

-- The product of a value with each of eight signs is added to eight totals, lane by lane, in 16-bit arithmetic.

abbrev plus : ℕ → ℕ → ℕ
plus a b = (a + b) % 2 ^ 16

abbrev times : ℕ → ℕ → ℕ
times a b = a * b % 2 ^ 16

abbrev pub with_product : (n : ℕ) → List ℤ → ℤ → List ℤ → List ℤ
with_product n totals value signs =
    map (to_z w16) (zip2 plus (map (of_z w16) totals) (zip2 times (replicate n (of_z w16 value)) (map (of_z w16) signs)))

pub product_within : (value sign : ℤ) → IsMagnitudeWithin 1024 value → IsMagnitudeWithin 1 sign →
    IsMagnitudeWithin 1024 (value *ℤ sign)
product_within value (pos zero) v s = omega (arith, ints)
product_within value (pos (suc zero)) v s = omega (arith, ints)
product_within value (negsuc zero) v s = omega (arith, ints)
product_within value sign v s = absurd (omega (arith, ints))

one_lane : (total value sign : ℤ) → IsMagnitudeWithin 25600 total → IsMagnitudeWithin 1024 value → IsMagnitudeWithin 1 sign
    → to_z w16 (plus (of_z w16 total) (times (of_z w16 value) (of_z w16 sign))) ≡ total +ℤ value *ℤ sign
one_lane total value sign t v s =
    let p = product_within value sign v s in
    wrapping_add-bits w16 (of_z w16 total) (times (of_z w16 value) (of_z w16 sign)) (omega (arith, ints)) (omega arith)
    ∙ ap₂ (λ a b. int_wrap w16 (a +ℤ b)) (to_z-of_z w16 total (omega (arith, ints)))
    (wrapping_mul_is w16 value sign (omega (arith, ints))
    (omega (arith, ints))
    ∙ int_wrap_fits w16 (value *ℤ sign) (omega (arith, ints)))
    ∙ int_wrap_fits w16 (total +ℤ value *ℤ sign) (omega (arith, ints))

module _ (totals : List ℤ) (value : ℤ) (signs : List ℤ) (long : length totals ≡ 8) (long' : length signs ≡ 8) where
  pub length-with_product : length (with_product 8 totals value signs) ≡ 8
  length-with_product =
      length-lanewise (λ n xs ys. with_product n xs value ys) _ refl (λ n x y xs ys. refl) 8 totals signs long long'

  pub total_with_product : (k : ℕ) → k < 8 → IsMagnitudeWithin 25600 (get_or totals k (pos 0)) → IsMagnitudeWithin 1024 value →
      IsMagnitudeWithin 1 (get_or signs k (pos 0)) →
      get_or (with_product 8 totals value signs) k (pos 0) ≡ get_or totals k (pos 0) +ℤ value *ℤ get_or signs k (pos 0)
  total_with_product k lt t v s =
      lanewise-at (λ n xs ys. with_product n xs value ys) _ refl (λ n x y xs ys. refl) 8 totals signs long long' k lt
      (pos 0) (pos 0) (pos 0)
      ∙ one_lane (get_or totals k (pos 0)) value (get_or signs k (pos 0)) t v s

-- 26624 is 8 * 26 * 128, which no correlation of eight midambles exceeds
pub passed : (totals : List ℤ) → length totals ≡ 8 → ((k : ℕ) → k ≤ 7 →
    IsMagnitudeWithin 26624 (get_or totals k (pos 0))) →
    map (to_z w16) (map (of_z w16) totals) ≡ totals
passed totals long within =
    cast_lanes-each w16 8 totals (record { count = long; fits = λ k lt. omega (arith, ints, within k (omega arith)) })

-- ## Correlations: How one more soft bit changes a correlation, and the correlation of a sum of soft bits.

pub correlation_more : (soft : List ℤ) (bits : List ℕ) (i : ℕ) (total all : ℤ) → i < length soft → i < length bits →
    total +ℤ likelihood (drop i soft) (drop i bits) ≡ all →
    (total +ℤ bit_metric (get_or soft i (pos 0)) (get_or bits i 0)) +ℤ likelihood (drop (i + 1) soft) (drop (i + 1) bits) ≡ all
correlation_more soft bits i total all hs hb before =
    let value = get_or soft i (pos 0) in
    let bit = get_or bits i 0 in
    let next : total +ℤ (bit_metric value bit +ℤ likelihood (drop (i + 1) soft) (drop (i + 1) bits)) ≡ all =
    rw (drop_more soft i (pos 0), drop_more bits i 0) at before in
    omega (arith, ints)

pub wrong_more : (soft : List ℤ) (bits : List ℕ) (i : ℕ) → i < length soft → i < length bits →
    count_wrong_bits (drop i soft) (drop i bits) ≡ wrong_bits_at soft i (sign_of_bit (get_or bits i 0)) + count_wrong_bits
    (drop (i + 1) soft)
    (drop (i + 1) bits)
wrong_more soft bits i hs hb = rw (drop_more soft i (pos 0), drop_more bits i 0) refl

bit_metric-add : (x y : ℤ) (bit : ℕ) → bit ≤ 1 → bit_metric (x +ℤ y) bit ≡ bit_metric x bit +ℤ bit_metric y bit
bit_metric-add x y zero h = omega (arith, ints)
bit_metric-add x y (suc zero) h = omega (arith, ints)
bit_metric-add x y bit h = absurd (omega arith)

pub length-vector_sum : (xs ys : List ℤ) → length xs ≡ length ys → length (vector_sum xs ys) ≡ length xs
length-vector_sum [] ys e = refl
length-vector_sum (x ∷ xs) [] e = absurd (omega arith)
length-vector_sum (x ∷ xs) (y ∷ ys) e =
    ap suc (length-vector_sum xs ys (omega arith))

pub get_or-vector_sum : (xs ys : List ℤ) (k : ℕ) → length xs ≡ length ys →
    get_or (vector_sum xs ys) k (pos 0) ≡ get_or xs k (pos 0) +ℤ get_or ys k (pos 0)
get_or-vector_sum [] [] k e = refl
get_or-vector_sum (x ∷ xs) (y ∷ ys) zero e = refl
get_or-vector_sum (x ∷ xs) (y ∷ ys) (suc k) e = get_or-vector_sum xs ys k (omega arith)
get_or-vector_sum xs ys k e = absurd (omega arith)

pub correlation-vector_sum : (xs ys : List ℤ) (bits : List ℕ) → length xs ≡ length ys → AllBits bits →
    likelihood (vector_sum xs ys) bits ≡ likelihood xs bits +ℤ likelihood ys bits
correlation-vector_sum [] [] bits e b = refl
correlation-vector_sum (x ∷ xs) (y ∷ ys) [] e b = refl
correlation-vector_sum (x ∷ xs) (y ∷ ys) (bit ∷ bits) e b =
    omega (
      arith,
      ints,
      bit_metric-add x y bit (All-head IsBit bit bits b),
      correlation-vector_sum xs ys bits (omega arith) (All-tail IsBit bit bits b),
    )
correlation-vector_sum xs ys bits e b = absurd (omega arith)

-- ## Greatest: The training sequence with the greatest correlation.

pub IsFirstMaximum-from_LeadsBelow : (score : ℕ → ℤ) (best : ℕ) → LeadsBelow score 8 best → IsFirstMaximum score 7 best
IsFirstMaximum-from_LeadsBelow score best leads = record {
  in_range = omega (arith, leads.in_range);
  others = λ n h ne. leads.others n (omega arith) ne;
}

pub IsFirstMaximum-same : (score total : ℕ → ℤ) (last best : ℕ) → ((n : ℕ) → n ≤ last → score n ≡ total n) →
    IsFirstMaximum score last best → IsFirstMaximum total last best
IsFirstMaximum-same score total last best same first = record {
  in_range = first.in_range;
  others = λ n h ne.
      let here = same n h in
      let there = same best first.in_range in
      elim (first.others n h ne) [
        | inl less ↦ inl (omega (arith, ints))
        | inr equal ↦ inr (omega (arith, ints, equal.0), equal.1)
      ];
}

pub IsFirstMaximum-first_greatest : (score : ℕ → ℤ) → IsFirstMaximum score 7 (first_greatest score 7)
IsFirstMaximum-first_greatest score = IsFirstMaximum-from_LeadsBelow score (first_greatest score 7) (leads score 7)

pub one_first_greatest : (score : ℕ → ℤ) (last m n : ℕ) → IsFirstMaximum score last m → IsFirstMaximum score last n → m ≡ n
one_first_greatest score last m n h g = elim (cases_eq m n) [
  | inl same ↦ same
  | inr other ↦ absurd (omega (arith, ints, h.others n g.in_range (λ e. other (sym e)), g.others m h.in_range other))
]

-- ## Widths: A sum of four soft bits fits in 16 bits.

-- a value converted to 16 bits and back
abbrev pub kept : ℤ → ℤ
kept z = to_z w16 (of_z w16 z)

pub four_kept : (a b c d : ℤ) → IsMagnitudeWithin 128 a → IsMagnitudeWithin 128 b → IsMagnitudeWithin 128 c
    → IsMagnitudeWithin 128 d →
    kept (kept (kept (kept a +ℤ kept b) +ℤ kept c) +ℤ kept d) ≡ ((a +ℤ b) +ℤ c) +ℤ d
four_kept a b c d ha hb hc hd = omega (arith, ints)

-- correlating the sum of four midambles gives the sum of their correlations
pub correlation-four : (a b c d : List ℤ) (tsc : ℕ) → length a ≡ length b → length a ≡ length c → length a ≡ length d →
    tsc ≤ 7 → likelihood (vector_sum (vector_sum (vector_sum a b) c) d) (midamble tsc) ≡ total_correlation a b c d tsc
correlation-four a b c d tsc ab ac ad h =
    let bits = midamble tsc in
    let are_bits = AllBits-midamble tsc h in
    let long = length-vector_sum a b ab in
    let abc : length (vector_sum a b) ≡ length c = omega arith in
    let longer = length-vector_sum (vector_sum a b) c abc in
    let abcd : length (vector_sum (vector_sum a b) c) ≡ length d = omega arith in
    let two = correlation-vector_sum a b bits ab are_bits in
    let three = correlation-vector_sum (vector_sum a b) c bits abc are_bits in
    let four = correlation-vector_sum (vector_sum (vector_sum a b) c) d bits abcd are_bits in
    omega (arith, ints, two, three, four)
