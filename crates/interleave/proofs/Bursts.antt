-- Interleaved and deinterleaved bursts: there is one for all coded bits, and the loops over half a burst build it.
use Rattle.{
  bit_blocks.specs.Bits.AllBits,
  interleave.{
    specs.Bursts.{deinterleaved, interleaved, interleaved_burst, AreDeinterleaved, IsBurstDeinterleaved, IsInterleaved},
    specs.{ColumnPositions.coded_bit_number_in_burst, Positions.{burst_of_bit, position_in_burst}},
    proofs.Positions.{IsCodedBitAt, IsCodedBitAt-coded_bit_number_in_burst, coded_bit_number_in_burst-inverse, burst_of_bit-below},
    proofs.Positions.position_in_burst-below,
  },
  std.proofs.Common.{All, Contains, List, [], ap, arith, below_more, get_or-set_other, get_or-set_same, get_or, inl, inr, length, map, pos},
  std.proofs.Common.{subst, sym, ℕ, ℤ, ◌*◌, ◌++◌, ◌+◌, ◌<◌, ◌∙◌, ◌∷◌, ◌≡◌, ◌≢◌, ◌≤◌},
  std.proofs.{Math.ListN.set, lemmas.{Bool.{cases_eq, cases_lt}, List.Edits.{get_or-between, length-between}}},
  std.proofs.lemmas.List.{FromFn.{get_or-map-range_with_len, length-map-range_with_len}, append-nil, drop_all, drop_at, ext_get_or},
  std.proofs.lemmas.List.{get_or-append_right, get_or-map, get_or_append_left, get_or_default, length-map, same_lists, take_at},
  std.specs.Prelude.slice_range,
}
use borrow.Rule.Slice.PartMut.{put_mid}

-- ## Bijection: Interleaving is a bijection between coded bits and burst positions, so the coded bits and the bursts determine each other.

module _ {X : Type 0} where
  from_coded : (coded : List X) (bursts : List (List X)) → IsInterleaved coded bursts → (b j : ℕ) (d : X) → b < 4 → j < 114 →
      get_or (get_or bursts b []) j d ≡ get_or coded (coded_bit_number_in_burst b j) d
  from_coded coded bursts whole b j d hb hj =
      let stands = IsCodedBitAt-coded_bit_number_in_burst b j hb hj in
      let holds = whole.positions (coded_bit_number_in_burst b j) d stands.in_range in
      rw (stands.burst, stands.place) at holds

  pub same_coded : (coded coded' : List X) (bursts : List (List X)) → IsInterleaved coded bursts → IsInterleaved coded' bursts →
      coded ≡ coded'
  same_coded coded coded' bursts whole whole' =
      same_lists _ _ (whole.coded_count ∙ sym whole'.coded_count)
      (λ k d lt. let hk : k < 456 = rw whole.coded_count at lt in sym (whole.positions k d hk) ∙ whole'.positions k d hk)

  pub same_bursts : (coded : List X) (bursts bursts' : List (List X)) → IsInterleaved coded bursts → IsInterleaved coded bursts' →
      bursts ≡ bursts'
  same_bursts coded bursts bursts' whole whole' =
      same_lists _ _ (whole.burst_count ∙ sym whole'.burst_count)
      (λ b d lt.
      let hb : b < 4 = rw whole.burst_count at lt in
      let lt' : b < length bursts' = rw whole'.burst_count hb in
      same_lists _ _ (whole.burst_lengths b d lt ∙ sym (whole'.burst_lengths b d lt'))
      (λ j e le.
      let hj : j < 114 = rw (whole.burst_lengths) at le in
      ap (λ burst. get_or burst j e) (get_or_default bursts b d [] lt)
      ∙ from_coded coded bursts whole b j e hb hj
      ∙ sym (from_coded coded bursts' whole' b j e hb hj)
      ∙ ap (λ burst. get_or burst j e) (get_or_default bursts' b [] d lt')))

pub AllBits-bursts : (coded : List ℕ) (bursts : List (List ℕ)) → IsInterleaved coded bursts → AllBits coded → All AllBits bursts
AllBits-bursts coded bursts whole bits b none lt j d le =
    let hb : b < 4 = rw whole.burst_count at lt in
    let hj : j < 114 = rw whole.burst_lengths at le in
    rw (get_or_default bursts b none [] lt, from_coded coded bursts whole b j d hb hj)
    (bits (coded_bit_number_in_burst b j) d (rw whole.coded_count (IsCodedBitAt-coded_bit_number_in_burst b j hb hj).in_range))

-- ## WholeBursts: A burst consists of two halves.

pub halves-at : {X : Type 0} (first second : List X) (k : ℕ) (d value : X) → length first ≡ 57 →
    ((i : ℕ) → i < 57 → position_in_burst k ≡ 57 * 0 + i → get_or first i d ≡ value) →
    ((i : ℕ) → i < 57 → position_in_burst k ≡ 57 * 1 + i → get_or second i d ≡ value) →
    get_or (first ++ second) (position_in_burst k) d ≡ value
halves-at first second k d value long in_first in_second =
    let within = position_in_burst-below k in
    elim (cases_lt (position_in_burst k) 57) [
      | inl lower ↦
          get_or_append_left _ _ d (position_in_burst k) (omega arith) ∙ in_first _ lower (omega arith)
      | inr upper ↦
          get_or-append_right first second 57 (position_in_burst k) d long upper
          ∙ in_second _ (omega arith) (omega arith)
    ]

pub put_mid-behind : {X : Type 0} (n m : ℕ) (first old second : List X) → length first ≡ n → length old ≡ m →
    put_mid n m (first ++ old) second ≡ first ++ second
put_mid-behind n m first old second f o = rw (take_at first old n f, drop_at first old n f, drop_all m old (omega arith), append-nil second)

-- ## HalfBursts: One step of the loops over half a burst, which read or write one more value by the table.

module _ (b half : ℕ) (hb : b < 4) (hh : half ≤ 1) where
  abbrev pub bit_of_half : ℕ → ℕ
  bit_of_half i = coded_bit_number_in_burst b (57 * half + i)

  pub half-position : (i : ℕ) → i < 57 → IsCodedBitAt (bit_of_half i) b (57 * half + i)
  half-position i hi = IsCodedBitAt-coded_bit_number_in_burst b _ hb (omega arith)

  pub IsInterleaved-half_burst : (coded : List ℕ) (bursts : List (List ℕ)) (out : List ℕ) → IsInterleaved coded bursts →
      length out ≡ 57 → ((i : ℕ) → i < 57 → get_or out i 0 ≡ get_or coded (bit_of_half i) 0) →
      out ≡ slice_range (get_or bursts b []) (57 * half) (57 * half + 57)
  IsInterleaved-half_burst coded bursts out whole long read =
      let burst = get_or _ b [] in
      let full : length burst ≡ 114 = whole.burst_lengths b [] (rw whole.burst_count hb) in
      let within : 57 * half + 57 ≤ length burst = omega arith in
      let count = length-between _ (57 * half) _ within in
      ext_get_or 0 _ _ (omega (arith, count))
      (λ i lt.
      let here : i < 57 = omega arith in
      read i here
      ∙ sym (from_coded coded bursts whole b (57 * half + i) 0 hb (omega arith))
      ∙ sym (get_or-between burst (57 * half) (57 * half + 57) i 0 (omega arith)))

  half-differs : (i j : ℕ) → i < 57 → j < 57 → i ≢ j → bit_of_half i ≢ bit_of_half j
  half-differs i j hi hj other same =
      let places : 57 * half + i ≡ 57 * half + j = sym (half-position i hi).place ∙ ap position_in_burst same
      ∙ (half-position j hj).place in
      other (omega arith)

  module _ (soft old values : List ℤ) (i : ℕ) (value : ℤ) (hi : i < 57) (full : length soft ≡ 456)
      (read : value ≡ get_or values i (pos 0)) where
    pub updated_bits-more : ((j : ℕ) → j < i → get_or soft (bit_of_half j) (pos 0) ≡ get_or values j (pos 0)) →
        (j : ℕ) → j < i + 1 → get_or (set soft (bit_of_half i) value) (bit_of_half j) (pos 0) ≡ get_or values j (pos 0)
    updated_bits-more before =
        let within = (half-position i hi).in_range in
        let lt : bit_of_half i < length soft = omega arith in
        below_more _ i
        (λ j hj.
        let ne : bit_of_half j ≢ bit_of_half i = half-differs j i (omega arith) hi (omega arith) in
        rw get_or-set_other (before j hj)) (rw get_or-set_same read)

    pub unchanged_bits-more : ((k : ℕ) → k < 456 → ((j : ℕ) → j < i → bit_of_half j ≢ k) →
        get_or soft k (pos 0) ≡ get_or old k (pos 0)) → (k : ℕ) → k < 456 → ((j : ℕ) → j < i + 1 → bit_of_half j ≢ k) →
        get_or (set soft (bit_of_half i) value) k (pos 0) ≡ get_or old k (pos 0)
    unchanged_bits-more before k hk none =
        let ne : k ≢ bit_of_half i = λ same. none i (omega arith) (sym same) in
        rw get_or-set_other (before k hk (λ j hj. none j (omega arith)))

-- ## Orders: Bursts may be deinterleaved in any order: each writes only its own coded bits.

Contains-tail : (b x : ℕ) (order : List ℕ) → Contains (b ∷ order) x → x ≢ b → Contains order x
Contains-tail b x _ h other = grind arith

abbrev value_of_coded_bit : {X : Type 0} → List (List X) → X → ℕ → X
value_of_coded_bit bursts d k = get_or (get_or bursts (burst_of_bit k) []) (position_in_burst k) d

module _ {X : Type 0} (bursts : List (List X)) (k : ℕ) (d : X) (hk : k < 456) where
  gathered_own : (b : ℕ) (old new : List X) → IsBurstDeinterleaved b (get_or bursts b []) old new → burst_of_bit k ≡ b →
      get_or new k d ≡ value_of_coded_bit bursts d k
  gathered_own b old new step same =
      step.updated_bits k d hk same ∙ ap (λ n. get_or (get_or bursts n []) (position_in_burst k) d) (sym same)

  gathered_keeps : (order : List ℕ) (old new : List X) → AreDeinterleaved bursts order old new →
      get_or old k d ≡ value_of_coded_bit bursts d k → get_or new k d ≡ value_of_coded_bit bursts d k
  gathered_keeps [] old new same there = ap (λ xs. get_or xs k d) (sym same) ∙ there
  gathered_keeps (b ∷ order) old new (next, step, rest) there =
      gathered_keeps order _ new rest
      (elim (cases_eq (burst_of_bit k) b) [
        | inl same ↦ gathered_own b old next step same
        | inr other ↦ step.unchanged_bits k d hk other ∙ there
      ])

  gathered_reaches : (order : List ℕ) (old new : List X) → AreDeinterleaved bursts order old new → Contains order (burst_of_bit k) →
      get_or new k d ≡ value_of_coded_bit bursts d k
  gathered_reaches [] old new same (n, h, e) = absurd (omega arith)
  gathered_reaches (b ∷ order) old new (next, step, rest) among =
      elim (cases_eq (burst_of_bit k) b) [
        | inl same ↦ gathered_keeps order _ new rest (gathered_own b old next step same)
        | inr other ↦ gathered_reaches order next new rest (Contains-tail b (burst_of_bit k) order among other)
      ]

length-deinterleaved : {X : Type 0} (bursts : List (List X)) (order : List ℕ) (old new : List X) →
    AreDeinterleaved bursts order old new →
    length new ≡ length old
length-deinterleaved bursts [] old new same = ap length (sym same)
length-deinterleaved bursts (b ∷ order) old new (next, step, rest) = length-deinterleaved bursts order next new rest ∙ step.count

pub IsInterleaved-any_order : {X : Type 0} (bursts : List (List X)) (order : List ℕ) (old new : List X) →
    length old ≡ 456 → length bursts ≡ 4 → All (λ burst. length burst ≡ 114) bursts →
    ((b : ℕ) → b < 4 → Contains order b) → AreDeinterleaved bursts order old new → IsInterleaved new bursts
IsInterleaved-any_order bursts order old new long four each every steps = record {
  coded_count = length-deinterleaved bursts order old new steps ∙ long;
  burst_count = four;
  burst_lengths = each;
  positions = λ k d hk. sym (gathered_reaches bursts k d hk order old new steps (every (burst_of_bit k) (burst_of_bit-below k)));
}

-- ## Existence: Any 456 coded bits can be interleaved, and any four bursts can be deinterleaved.

pub IsInterleaved-interleaved : (c : List ℕ) → length c ≡ 456 → IsInterleaved c (interleaved c)
unfolding interleaved
IsInterleaved-interleaved c count =
    record {
      coded_count = count;
      burst_count = length-map-range_with_len (interleaved_burst c) 0 4;
      burst_lengths = λ b d h.
          let within : b < 4 = rw (length-map-range_with_len (interleaved_burst c) 0 4) at h in
          ap length (get_or-map-range_with_len (interleaved_burst c) 0 4 b b d within (omega arith))
          ∙ length-map-range_with_len (λ j. get_or c (coded_bit_number_in_burst b j) 0) 0 114;
      positions = λ k d within.
          let b = burst_of_bit k in
          let j = position_in_burst k in
          ap (λ bits. get_or bits j d) (get_or-map-range_with_len (interleaved_burst c) 0 4 b b [] (burst_of_bit-below k) (omega arith))
          ∙ get_or-map-range_with_len (λ i. get_or c (coded_bit_number_in_burst b i) 0) 0 114 j j d (position_in_burst-below k)
          (omega arith)
          ∙ ap (λ i. get_or c i 0) (coded_bit_number_in_burst-inverse k within)
          ∙ get_or_default c k 0 d (omega arith);
    }

module _ {X : Type 0} (none : X) (parts : List (List X)) (four : length parts ≡ 4) (each : All (λ part. length part ≡ 114) parts) where
  pub IsInterleaved-deinterleaved : IsInterleaved (deinterleaved none parts) parts
  unfolding deinterleaved
  IsInterleaved-deinterleaved =
      record {
        coded_count = length-map-range_with_len (value_of_coded_bit parts none) 0 456;
        burst_count = four;
        burst_lengths = each;
        positions = λ k d h.
            let within : burst_of_bit k < length parts = omega (arith, burst_of_bit-below k) in
            let long : length (get_or parts (burst_of_bit k) []) ≡ 114 = each (burst_of_bit k) [] within in
            let inside : position_in_burst k < length (get_or parts (burst_of_bit k) []) = omega (arith, position_in_burst-below k) in
            get_or_default (get_or parts (burst_of_bit k) []) (position_in_burst k) d none inside
            ∙ sym (get_or-map-range_with_len (value_of_coded_bit parts none) 0 456 k k d h (omega arith));
      }

pub IsInterleaved-map : {X Y : Type 0} (f : X → Y) (none : X) (c : List X) (parts : List (List X)) → IsInterleaved c parts →
    IsInterleaved (map f c) (map (map f) parts)
IsInterleaved-map f none c parts spread = record {
  coded_count = length-map c f ∙ spread.coded_count;
  burst_count = length-map _ _ ∙ spread.burst_count;
  burst_lengths = λ i d h.
      let within : i < length parts = rw (← length-map _ (map f)) h in
      ap length (get_or-map (map f) parts i [] d within)
      ∙ length-map (get_or parts i []) f
      ∙ spread.burst_lengths i [] within;
  positions = λ k d h.
      let b = burst_of_bit k in
      let j = position_in_burst k in
      let within : b < length parts = rw spread.burst_count (burst_of_bit-below k) in
      let here : k < length c = rw spread.coded_count h in
      ap (λ values. get_or values j d) (get_or-map (map f) parts b [] [] within)
      ∙ get_or-map f (get_or parts b []) j none d (rw (spread.burst_lengths b [] within) (position_in_burst-below k))
      ∙ ap f (spread.positions k none h)
      ∙ sym (get_or-map f c k none d here);
}

pub All-interleaved : {X : Type 0} (P : X → Type 0) (c : List X) (parts : List (List X)) → IsInterleaved c parts →
    All (All P) parts → All P c
All-interleaved P c parts spread all k d h =
    let within : k < 456 = rw (← spread.coded_count) h in
    let burst : burst_of_bit k < length parts = rw spread.burst_count (burst_of_bit-below k) in
    let place : position_in_burst k < length (get_or parts (burst_of_bit k) []) =
    rw (spread.burst_lengths (burst_of_bit k) [] burst) (position_in_burst-below k) in
    subst P (spread.positions k d within) (all (burst_of_bit k) [] burst (position_in_burst k) d place)
