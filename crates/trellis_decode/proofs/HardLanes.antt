-- What the operations of a step in sixteen 8-bit lanes do in each lane, beyond those that `lanes` states for any width.
use Rattle.{
  std.{
    proofs.{
      Common.{◌≡◌, ℕ, ◌+◌, ◌-◌, ◌%◌, ◌<◌, Bool, false, true, if◌then◌else◌, ℤ, pos, ◌+ℤ◌},
      Common.{◌≤ℤ◌, replicate, ◌-ℤ◌, List, [], ◌∷◌, ◌++◌, map, length, get_or, refl, ap, ap₂, sym, ◌∙◌},
      Common.{arith, int_lt, w8, FitsSigned},
      lemmas.{Int.ints, List.{get_or_append_left, length-map}, Simd.{length-sel_l, get_or-sel_l}},
    },
    specs.Int.cast_signed,
  },
  lanes.{
    specs.Lanes.{DifferencesFit, lane, lane_of_two, greater},
    proofs.Lanes.{bits_of, differences, if_either, if_map, length-less_lanes, less_lanes, less_lanes-at, same_below, shuffled_bits, sums},
  },
  trellis_decode.specs.Hard.{AreInt8, DifferByAtMost, HaveMagnitudeAtMostOne, HaveHeadroom8, lane_after_bit_1, lane_after_bit_0},
}
use lib.Lanes.{pick_l, sel_l, zip2}

-- ---- lemmas about the candidate metrics of bit 0 and of bit 1

-- the lane of the next state of the state in each lane, after bit 0 and after bit 1
abbrev pub lanes_after_bit_0 : List ℕ
lanes_after_bit_0 = 0 ∷ 8 ∷ 1 ∷ 9 ∷ 2 ∷ 10 ∷ 3 ∷ 11 ∷ 0 ∷ 8 ∷ 1 ∷ 9 ∷ 2 ∷ 10 ∷ 3 ∷ 11 ∷ []

abbrev pub lanes_after_bit_1 : List ℕ
lanes_after_bit_1 = 4 ∷ 12 ∷ 5 ∷ 13 ∷ 6 ∷ 14 ∷ 7 ∷ 15 ∷ 4 ∷ 12 ∷ 5 ∷ 13 ∷ 6 ∷ 14 ∷ 7 ∷ 15 ∷ []

module _ (a branch_metrics : List ℤ) (ha : HaveHeadroom8 a) (he : HaveMagnitudeAtMostOne branch_metrics) where
  signed : AreInt8 a
  signed = grind (arith, ints)

  -- the lanes of the next states
  abbrev next : List ℕ → List ℤ
  next order = map (lane_of_two 16 a a) order

  next_signed : (order : List ℕ) (place : ℕ → ℕ) → length order ≡ 16 → ((k : ℕ) → k < 16 →
      lane (next order) k ≡ lane a (place k)) →
      ((k : ℕ) → k < 16 → place k < 16) → AreInt8 (next order)
  next_signed order place count at inside =
      record { count = length-map order _ ∙ count; fits = λ k lt. rw (at k lt) (signed.fits _ (inside k lt)) }

  moved_0 : (k : ℕ) → k < 16 → lane (next lanes_after_bit_0) k ≡ lane a (lane_after_bit_0 k)
  moved_0 = same_below _ _ refl

  moved_1 : (k : ℕ) → k < 16 → lane (next lanes_after_bit_1) k ≡ lane a (lane_after_bit_1 k)
  moved_1 = same_below _ _ refl

  pub candidates_of_bit_0 : let is = map (cast_signed w8) (zip2 (λ x y. (x + y) % 256)
      (pick_l 0 (bits_of w8 a ++ bits_of w8 a) lanes_after_bit_0) (bits_of w8 branch_metrics)) in
      ((k : ℕ) → k < 16 → lane is k ≡ lane a (lane_after_bit_0 k) +ℤ lane branch_metrics k) × AreInt8 is
  candidates_of_bit_0 =
      rw (shuffled_bits w8 refl 16 16 a a signed signed lanes_after_bit_0)
      (let is = sums w8 16 (next lanes_after_bit_0) branch_metrics
      (next_signed lanes_after_bit_0 lane_after_bit_0 refl moved_0 (λ k lt. omega arith)) (grind (arith, ints))
      (λ k lt. rw (moved_0 k lt) (omega (
        arith,
        ints,
        ha.lower_bound (lane_after_bit_0 k),
        ha.upper_bound (lane_after_bit_0 k),
        he.lower_bound k,
        he.upper_bound k,
      ))) in
      (λ k lt. is.each k lt ∙ ap (λ x. x +ℤ lane branch_metrics k) (moved_0 k lt), is.lanes))

  pub candidates_of_bit_1 : let is = map (cast_signed w8) (zip2 (λ x y. (x + (256 - y)) % 256)
      (pick_l 0 (bits_of w8 a ++ bits_of w8 a) lanes_after_bit_1) (bits_of w8 branch_metrics)) in
      ((k : ℕ) → k < 16 → lane is k ≡ lane a (lane_after_bit_1 k) -ℤ lane branch_metrics k) × AreInt8 is
  candidates_of_bit_1 =
      rw (shuffled_bits w8 refl 16 16 a a signed signed lanes_after_bit_1)
      (let is = differences w8 16 (next lanes_after_bit_1) branch_metrics
      (next_signed lanes_after_bit_1 lane_after_bit_1 refl moved_1 (λ k lt. omega arith)) (grind (arith, ints))
      (λ k lt. rw (moved_1 k lt) (omega (
        arith,
        ints,
        ha.lower_bound (lane_after_bit_1 k),
        ha.upper_bound (lane_after_bit_1 k),
        he.lower_bound k,
        he.upper_bound k,
      ))) in
      (λ k lt. is.each k lt ∙ ap (λ x. x -ℤ lane branch_metrics k) (moved_1 k lt), is.lanes))

-- ---- lemmas about what the candidate metric z of bit 0 lacks to the greater one, v, of z and that of bit 1, o

loss_fits : (z o v : ℤ) → v ≡ greater z o → o ≤ℤ (z +ℤ pos 102) → FitsSigned w8 (z -ℤ v)
loss_fits z o v is near = rw is (by _ refl)
  where
    by : (t : Bool) → int_lt z o ≡ t → FitsSigned w8 (z -ℤ (if t then o else z))
    by true e = omega (arith, ints)
    by false e = omega (arith, ints)

loss_sign : (z o v l : ℤ) → v ≡ greater z o → l ≡ z -ℤ v → int_lt l (pos 0) ≡ int_lt z o
loss_sign z o v l is less = rw (less, is) (by _ refl)
  where
    same : (t u : Bool) → int_lt z o ≡ t → int_lt (z -ℤ o) (pos 0) ≡ u → u ≡ t
    same true true e f = refl
    same true false e f = absurd (omega (arith, ints))
    same false true e f = absurd (omega (arith, ints))
    same false false e f = refl

    by : (t : Bool) → int_lt z o ≡ t → int_lt (z -ℤ (if t then o else z)) (pos 0) ≡ int_lt z o
    by true e = same _ _ refl refl
    by false e = let none : z -ℤ z ≡ pos 0 = omega (arith, ints) in ap (λ x. int_lt x (pos 0)) none ∙ sym e

-- a step: the candidate metrics of bit 0 and of bit 1 in each lane, and the greater of both
pub record IsHardStep (after branch_metrics zeros ones values : List ℤ) : Type 0 where
  pub zero : (k : ℕ) → k < 16 → lane zeros k ≡ lane after (lane_after_bit_0 k) +ℤ lane branch_metrics k
  pub one : (k : ℕ) → k < 16 → lane ones k ≡ lane after (lane_after_bit_1 k) -ℤ lane branch_metrics k
  pub best : (k : ℕ) → k < 16 → lane values k ≡ greater (lane zeros k) (lane ones k)

module _ (a branch_metrics zeros ones values : List ℤ) (he : HaveMagnitudeAtMostOne branch_metrics)
    (step : IsHardStep a branch_metrics zeros ones values) where
  pub loss-fits : DifferByAtMost 100 a → DifferencesFit w8 16 zeros values
  loss-fits near k lt =
      loss_fits _ _ _ (step.best k lt) (omega (
        arith,
        ints,
        step.zero k lt,
        step.one k lt,
        he.lower_bound k lt,
        he.upper_bound k lt,
        near (lane_after_bit_1 k) (lane_after_bit_0 k) (omega arith) (omega arith),
      ))

  pub loss-sign : (losses : List ℤ) → ((k : ℕ) → k < 16 → lane losses k ≡ lane zeros k -ℤ lane values k) →
      (k : ℕ) → k < 16 →
      int_lt (lane losses k) (lane (replicate 16 (pos 0)) k) ≡ int_lt (lane zeros k) (lane ones k)
  loss-sign losses are k lt =
      ap (int_lt (lane losses k)) (same_below (lane (replicate 16 (pos 0))) (λ _. pos 0) refl k lt)
      ∙ loss_sign _ _ _ _ (step.best k lt) (are k lt)

  pub DifferByAtMost-more : (most : ℕ) → DifferByAtMost most a → DifferByAtMost (most + 2) values
  DifferByAtMost-more most near j k lj lk =
      omega (
        arith,
        ints,
        least k lk,
        greatest (lane a (lane_after_bit_0 k)) j lj (λ i li. near i (lane_after_bit_0 k) li (omega arith)),
      )
    where
      least : (k : ℕ) → k < 16 → (lane a (lane_after_bit_0 k) -ℤ pos 1) ≤ℤ lane values k
      least k lt = rw (step.best k lt) (by _ refl)
        where
          by : (t : Bool) → int_lt (lane zeros k) (lane ones k) ≡ t →
              (lane a (lane_after_bit_0 k) -ℤ pos 1) ≤ℤ (if t then lane ones k else lane zeros k)
          by true e = omega (arith, ints, step.zero k lt, he.lower_bound k lt)
          by false e = omega (arith, ints, step.zero k lt, he.lower_bound k lt)

      greatest : (x : ℤ) (j : ℕ) → j < 16 → ((i : ℕ) → i < 16 → lane a i ≤ℤ (x +ℤ pos most)) →
          lane values j ≤ℤ (x +ℤ pos (most + 1))
      greatest x j lt all =
          rw (step.best j lt) (if_either (λ v. v ≤ℤ (x +ℤ pos (most + 1))) (int_lt (lane zeros j) (lane ones j))
          (omega (arith, ints, step.one j lt, he.lower_bound j lt, all (lane_after_bit_1 j) (omega arith)))
          (omega (arith, ints, step.zero j lt, he.upper_bound j lt, all (lane_after_bit_0 j) (omega arith))))

-- ---- lemmas about the survivor map of the greater candidate metrics

module _ (zeros ones : List ℤ) (hz : AreInt8 zeros) (ho : AreInt8 ones) where
  -- a survivor map with one more bit at the front, computed by two fixed swizzles
  abbrev selected : List ℕ → List ℕ
  selected map = sel_l (less_lanes w8 16 zeros ones) (pick_l 0 (map ++ map) lanes_after_bit_1) (pick_l 0 (map ++ map) lanes_after_bit_0)

  long : length (less_lanes w8 16 zeros ones) ≡ 16
  long = length-less_lanes w8 16 zeros ones hz ho

  pub selected-at : (map : List ℕ) → length map ≡ 16 → (k : ℕ) → k < 16 → get_or (selected map) k 0
      ≡ get_or map (if int_lt (lane zeros k) (lane ones k) then lane_after_bit_1 k else lane_after_bit_0 k) 0
  selected-at map counted k lt =
      let twice = map ++ map in
      get_or-sel_l _ (pick_l 0 twice lanes_after_bit_1) (pick_l 0 twice lanes_after_bit_0) k 0 (omega (arith, long)) lt lt
      ∙ ap (λ t. if t then get_or (pick_l 0 twice lanes_after_bit_1) k 0 else get_or (pick_l 0 twice lanes_after_bit_0) k 0)
      (less_lanes-at w8 16 zeros ones hz ho k lt)
      ∙ ap₂ (λ x y. if int_lt (lane zeros k) (lane ones k) then x else y)
      (same_below (λ k. get_or (pick_l 0 twice lanes_after_bit_1) k 0) (λ k. get_or twice (lane_after_bit_1 k) 0) refl k lt
      ∙ get_or_append_left map map 0 _ (omega arith))
      (same_below (λ k. get_or (pick_l 0 twice lanes_after_bit_0) k 0) (λ k. get_or twice (lane_after_bit_0 k) 0) refl k lt
      ∙ get_or_append_left map map 0 _ (omega arith))
      ∙ sym (if_map (λ p. get_or map p 0) (int_lt (lane zeros k) (lane ones k)) refl refl)

  pub length-selected : (map : List ℕ) → length (selected map) ≡ 16
  length-selected map = length-sel_l _ (pick_l 0 (map ++ map) lanes_after_bit_1) (pick_l 0 (map ++ map) lanes_after_bit_0) long long
      ∙ long
