-- `Columns` holds the coded bits in columns of octets, and each row of a burst is the same bit of consecutive columns.
use Rattle.{
  bit_blocks.specs.Packed.{AreCodedBitsPacked, bit_of, packed_bit_index},
  interleave.specs.{ColumnPositions.{coded_bit_number_in_column, coded_bit_number_in_burst}, Columns.AreColumnsOfCodedBits},
  lanes.proofs.Lanes.{lanewise-at, length-lanewise},
  std.proofs.Common.{List, ap, arith, bit_and, drop, get_or, inl, inr, length-append, length, map, refl, replicate, sym, take, zero-add},
  std.proofs.Common.{ℕ, ◌%◌, ◌*◌, ◌++◌, ◌+◌, ◌-◌, ◌/◌, ◌<◌, ◌^◌, ◌∙◌, ◌≡◌, ◌≤◌},
  std.proofs.lemmas.{Bool.cases_lt, List.{FromFn.{get_or-map-range_with_len, length-map-range_with_len}, get_or-append_right, get_or-map}},
  std.proofs.lemmas.{List.{get_or-take, get_or_append_left, length-take}, Nat.and_mask, Simd.{get_or-chunk, length-chunk, put_chunk_is}},
  std.specs.List.range_with_len,
}
use borrow.Rule.Slice.PartMut.{put_mid}
use lib.Lanes.{chunk, pick_l, put_chunk, zip2}

pub get_or-picked : (place : ℕ → ℕ) (n : ℕ) (xs : List ℕ) (i : ℕ) → i < n →
    get_or (pick_l 0 xs (map place (range_with_len 0 n))) i 0 ≡ get_or xs (place i) 0
get_or-picked place n xs i lt =
    get_or-map (λ k. get_or xs k 0) (map place (range_with_len 0 n)) i 0 0 (omega (arith, length-map-range_with_len place 0 n))
    ∙ ap (λ k. get_or xs k 0) (get_or-map-range_with_len place 0 n i i 0 lt (omega arith))

module _ (n m : ℕ) (first rest second : List ℕ) (within : n ≤ length first) where
  pub put_mid-first : (q : ℕ) → q < n → get_or (put_mid n m (first ++ rest) second) q 0 ≡ get_or first q 0
  put_mid-first q hq =
      let front : q < length first = omega arith in
      let taken : q < length (take n (first ++ rest)) = omega (arith, length-take n (first ++ rest), length-append first rest) in
      get_or_append_left _ _ 0 q taken
      ∙ get_or-take n (first ++ rest) q 0 hq
      ∙ get_or_append_left first rest 0 q front

  pub put_mid-second : (q : ℕ) → q < length second → get_or (put_mid n m (first ++ rest) second) (n + q) 0 ≡ get_or second q 0
  put_mid-second q hq =
      let taken : length (take n (first ++ rest)) ≡ n = omega (arith, length-take n (first ++ rest), length-append first rest) in
      let back : n + q - n ≡ q = omega arith in
      get_or-append_right _ _ n _ 0 taken (omega arith)
      ∙ ap (λ k. get_or (second ++ drop m (drop n (first ++ rest))) k 0) back
      ∙ get_or_append_left second _ 0 q hq

pub AreColumnsOfCodedBits-repeat_columns : (coded packed columns octets : List ℕ) → AreCodedBitsPacked 57 coded packed →
    ((q : ℕ) → q < 64 → get_or columns q 0 ≡ get_or packed (8 * q % 57) 0) →
    ((q : ℕ) → q < 57 → get_or octets q 0 ≡ get_or columns q 0) →
    ((q : ℕ) → q < 64 → get_or octets (57 + q) 0 ≡ get_or columns q 0) → AreColumnsOfCodedBits coded octets
unfolding coded_bit_number_in_column
AreColumnsOfCodedBits-repeat_columns coded packed columns octets are ordered front back = record {
  each_bit = λ q r hq hr. ap (λ octet. bit_of octet (packed_bit_index r)) (column q hq) ∙ are _ r (omega arith) hr;
} where
  column : (q : ℕ) → q < 121 → get_or octets q 0 ≡ get_or packed (8 * q % 57) 0
  column q hq =
      elim (cases_lt q 57) [
        | inl lower ↦ front q lower ∙ ordered q (omega arith)
        | inr upper ↦
            ap (λ n. get_or octets n 0) (sym (omega arith))
            ∙ back _ (omega arith)
            ∙ ordered (q - 57) (omega arith)
            ∙ ap (λ n. get_or packed n 0) (omega arith)
      ]

-- one bit position of sixteen consecutive columns holds the coded bits at every other position of a burst
pub row_bit : (coded columns : List ℕ) (b place p : ℕ) → AreColumnsOfCodedBits coded columns → b < 4 → place ≤ 90 → p < 16 →
    let row = b + 4 * (place % 2) in
    bit_of (get_or columns (8 * row + place / 2 + p) 0) (packed_bit_index row) ≡ get_or coded
    (coded_bit_number_in_burst b (place + 2 * p)) 0
unfolding coded_bit_number_in_burst
row_bit _ _ b _ p are hb hj hp = grind arith

-- a vector that holds bit i of each of sixteen octets
module _ (octets : List ℕ) (i : ℕ) (long : length octets ≡ 16) where
  abbrev bit_lanes : ℕ → List ℕ → List ℕ → List ℕ
  bit_lanes n xs ys = zip2 bit_and (zip2 (λ a b. a / 2 ^ b) xs (replicate n i)) (replicate n 1)

  read : length (chunk 0 16 octets) ≡ 16
  read = length-chunk 0 16 _ (omega arith)

  pub length-bit_lanes : length (bit_lanes 16 (chunk 0 16 octets) octets) ≡ 16
  length-bit_lanes = length-lanewise bit_lanes _ refl (λ n x y xs ys. refl) 16 _ octets read long

  pub bit_lane : (p : ℕ) → p < 16 → get_or (bit_lanes 16 (chunk 0 16 octets) octets) p 0 ≡ bit_of (get_or octets p 0) i
  bit_lane p hp =
      lanewise-at bit_lanes _ refl (λ n x y xs ys. refl) 16 _ octets read long p hp 0 0 0
      ∙ and_mask _ 1
      ∙ ap (λ a. a / 2 ^ i % 2) (get_or-chunk 0 16 octets p 0 hp ∙ ap (λ k. get_or octets k 0) (zero-add p))

pub put_chunk-whole : (old lanes : List ℕ) (i : ℕ) → length old ≡ 32 → length lanes ≡ 32 → i < 32 →
    get_or (put_chunk 0 old lanes) i 0 ≡ get_or lanes i 0
put_chunk-whole old lanes i o l hi =
    ap (λ xs. get_or xs i 0) (put_chunk_is 0 old _ (omega arith)) ∙ get_or_append_left _ _ 0 i (omega arith)

pub interleave_lanes-coded_bits : (coded first second : List ℕ) (b from i : ℕ) → length first ≡ 16 → i < 32 →
    ((p : ℕ) → p < 16 → get_or first p 0 ≡ get_or coded (coded_bit_number_in_burst b (from + 2 * p)) 0) →
    ((p : ℕ) → p < 16 → get_or second p 0 ≡ get_or coded (coded_bit_number_in_burst b (from + 1 + 2 * p)) 0) →
    get_or (first ++ second) (i / 2 + 16 * (i % 2)) 0 ≡ get_or coded (coded_bit_number_in_burst b (from + i)) 0
interleave_lanes-coded_bits coded first second b from i long hi even odd =
    let half : i / 2 < 16 = omega arith in
    elim (cases_lt (i % 2) 1) [
      | inl lower ↦
          ap (λ k. get_or (first ++ second) k 0) (omega arith)
          ∙ get_or_append_left _ second 0 (i / 2) (omega arith)
          ∙ even (i / 2) half
          ∙ ap (λ j. get_or coded (coded_bit_number_in_burst b j) 0) (omega arith)
      | inr upper ↦
          get_or-append_right first second 16 (i / 2 + 16 * (i % 2)) 0 long (omega arith)
          ∙ ap (λ k. get_or second k 0) (omega arith)
          ∙ odd (i / 2) half
          ∙ ap (λ j. get_or coded (coded_bit_number_in_burst b j) 0) (omega arith)
    ]

pub half_burst-coded_bits : (coded front rest back : List ℕ) (b half m i : ℕ) → length front ≡ 32 → length back ≡ 32 →
    i < 57 →
    ((j : ℕ) → j < 32 → get_or front j 0 ≡ get_or coded (coded_bit_number_in_burst b (57 * half + j)) 0) →
    ((j : ℕ) → j < 32 → get_or back j 0 ≡ get_or coded (coded_bit_number_in_burst b (57 * half + 32 + j)) 0) →
    get_or (put_mid 32 m (front ++ rest) back) i 0 ≡ get_or coded (coded_bit_number_in_burst b (57 * half + i)) 0
half_burst-coded_bits coded front rest back b half m i long long' hi first second =
    elim (cases_lt i 32) [
      | inl lower ↦ put_mid-first 32 m _ _ _ (omega arith) i lower ∙ first i (omega arith)
      | inr upper ↦
          ap (λ k. get_or (put_mid 32 m (front ++ rest) back) k 0) (sym (omega arith))
          ∙ put_mid-second 32 m front rest back (omega arith) (i - 32) (omega arith)
          ∙ second (i - 32) (omega arith)
          ∙ ap (λ j. get_or coded (coded_bit_number_in_burst b j) 0) (omega arith)
    ]
