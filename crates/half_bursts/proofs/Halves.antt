-- The coded bits of a block in its halves.
use Rattle.{
  bit_blocks.specs.SoftValues.{AllSoftBits},
  half_bursts.specs.Halves.{AreCarried, burst_of_block, carrying_burst, coded_values, joined_block, joined_value, partner},
  half_bursts.specs.Halves.{position_in_normal_burst},
  interleave.proofs.{Bursts.halves-at, Positions.{burst_of_bit-below, position_in_burst-below}},
  interleave.specs.{Bursts.IsInterleaved, Positions.{burst_of_bit, position_in_burst}},
  std.proofs.Common.{List, [], ap, arith, drop, get_or, inl, inr, length, length-append, map, sym},
  std.proofs.Common.{ℕ, ℤ, ◌∷◌, ◌%◌, ◌+◌, ◌-◌, ◌/◌, ◌<◌, ◌==◌, ◌∙◌, ◌≡◌},
  std.proofs.Common.{◌≤◌, if◌then◌else◌},
  std.proofs.lemmas.{Bool.cases_lt, List.Elements.{All-cons, All-nil}},
  std.proofs.lemmas.List.FromFn.{get_or-map-range_with_len, length-map-range_with_len},
  std.proofs.lemmas.List.{ext_get_or, get_or-drop, get_or-map, get_or-take, get_or_default, length-drop, length-map, length-take},
  std.specs.{Prelude.slice_range, List.All},
}

-- ## Places: which burst holds a coded bit

abbrev pub IsBurst : {X : Type 0} → List X → Type 0
IsBurst burst = length burst ≡ 148

-- the positions of the lower four of eight coded bits are odd, the others even
position-parity : (k : ℕ) → position_in_normal_burst k % 2 ≡ 1 - k % 8 / 4
unfolding position_in_normal_burst position_in_burst
position-parity k = grind arith

-- the burst of the standard is that of the half, by the parity of the position
abbrev pub burst_of_half : (count coded_bit : ℕ) → ℕ
burst_of_half n k = if position_in_normal_burst k % 2 == 1 then burst_of_bit k else partner n (burst_of_bit k)

carrying-lower : (n k : ℕ) → 4 ≤ n → k % 8 < 4 → carrying_burst n k ≡ burst_of_bit k
unfolding carrying_burst burst_of_bit
carrying-lower n k hn hk = grind arith

carrying-upper : (n k : ℕ) → 4 ≤ n → 4 ≤ k % 8 → carrying_burst n k ≡ partner n (burst_of_bit k)
unfolding carrying_burst burst_of_bit
carrying-upper n k hn hk = grind arith

pub half_of_bit : (n k : ℕ) → 4 ≤ n → carrying_burst n k ≡ burst_of_half n k
half_of_bit n k hn =
    let parity = position-parity k in
    elim (cases_lt (k % 8) 4) [
      | inl lower ↦ let odd : position_in_normal_burst k % 2 ≡ 1 = omega arith in rw odd (carrying-lower n k hn lower)
      | inr upper ↦ let even : position_in_normal_burst k % 2 ≡ 0 = omega arith in rw even (carrying-upper n k hn upper)
    ]

pub carrying_burst-below : (n k : ℕ) → 4 ≤ n → carrying_burst n k < n
unfolding carrying_burst
carrying_burst-below n k hn = grind arith

pub partner-below : (n b : ℕ) → 4 ≤ n → b < 4 → partner n b < n
partner-below n b hn hb = grind arith

position-lower : (k : ℕ) → position_in_burst k < 57 → position_in_normal_burst k ≡ 3 + position_in_burst k
unfolding position_in_normal_burst
position-lower k h = grind arith

position-upper : (k : ℕ) → 57 ≤ position_in_burst k → position_in_normal_burst k ≡ 31 + position_in_burst k
unfolding position_in_normal_burst
position-upper k h = grind arith

position-below : (k : ℕ) → position_in_normal_burst k < 148
unfolding position_in_normal_burst
position-below k = grind (arith, position_in_burst-below k)

-- ## Joined: a value of a joined block is that of its half

pub joined_block-at : {X : Type 0} (none d : X) (bursts : List (List X)) (b p : ℕ) → b < 4 → p < 148 →
    get_or (get_or (joined_block none bursts) b []) p d ≡
    get_or (if p % 2 == 1 then get_or bursts b [] else get_or bursts (partner (length bursts) b) []) p none
joined_block-at none d bursts b p hb hp =
    let even = get_or bursts (partner (length bursts) b) [] in
    ap (λ xs. get_or xs p d) (get_or-map-range_with_len (burst_of_block none bursts) 0 4 b b [] hb (omega arith))
    ∙ get_or-map-range_with_len (joined_value none (get_or bursts b []) even) 0 148 p p d hp (omega arith)

chosen_burst : {X : Type 0} (bursts : List (List X)) (a b p : ℕ) →
    (if p % 2 == 1 then get_or bursts a [] else get_or bursts b []) ≡ get_or bursts (if p % 2 == 1 then a else b) []
chosen_burst bursts a b p = grind arith

slice-at : {X : Type 0} (burst : List X) (i j k p : ℕ) (d : X) → k < j - i → i + k ≡ p →
    get_or (slice_range burst i j) k d ≡ get_or burst p d
slice-at burst i j k p d h at = get_or-take _ _ k d h ∙ get_or-drop i burst k d ∙ ap (λ q. get_or burst q d) at

pub length-joined : {X : Type 0} (none : X) (bursts : List (List X)) → length (joined_block none bursts) ≡ 4
length-joined none bursts = length-map-range_with_len (burst_of_block none bursts) 0 4

pub IsBurst-joined : {X : Type 0} (none : X) (bursts : List (List X)) → All IsBurst (joined_block none bursts)
IsBurst-joined none bursts b d lt =
    let long = length-joined none bursts in
    let even = get_or bursts (partner (length bursts) b) [] in
    ap length (get_or-map-range_with_len (burst_of_block none bursts) 0 4 b b d (omega arith) (omega arith))
    ∙ length-map-range_with_len (joined_value none (get_or bursts b []) even) 0 148

module _ {X : Type 0} (none : X) (bursts : List (List X)) (each : All IsBurst bursts) (some : 4 ≤ length bursts) where
  abbrev joined : List (List X)
  joined = joined_block none bursts

  abbrev burst_of : ℕ → ℕ
  burst_of k = carrying_burst (length bursts) k

  value-at : (k : ℕ) (d : X) → k < 456 →
      get_or (get_or joined (burst_of_bit k) []) (position_in_normal_burst k) d ≡
      get_or (get_or bursts (burst_of k) []) (position_in_normal_burst k) d
  value-at k d hk =
      let p = position_in_normal_burst k in
      let b = burst_of_bit k in
      joined_block-at none d bursts b p (burst_of_bit-below k) (position-below k)
      ∙ ap (λ xs. get_or xs p none)
      (chosen_burst bursts b (partner (length bursts) b) p ∙ ap (λ n. get_or bursts n []) (sym (half_of_bit (length bursts) k some)))
      ∙ get_or_default (get_or bursts (burst_of k) []) p none d
      (omega (arith, each (burst_of k) [] (carrying_burst-below (length bursts) k some), position-below k))

  coded-at : (k : ℕ) (d : X) → k < 456 →
      get_or (get_or (map coded_values joined) (burst_of_bit k) []) (position_in_burst k) d ≡
      get_or (get_or bursts (burst_of k) []) (position_in_normal_burst k) d
  coded-at k d hk =
      let b = burst_of_bit k in
      let s = get_or joined b [] in
      let inside : b < length joined = omega (arith, length-joined none bursts, burst_of_bit-below k) in
      let long : length s ≡ 148 = IsBurst-joined none bursts b [] inside in
      let first : length (slice_range s 3 60) ≡ 57 = omega (arith, length-take 57 (drop 3 s), length-drop 3 s) in
      ap (λ xs. get_or xs (position_in_burst k) d) (get_or-map coded_values joined b [] [] inside)
      ∙ halves-at (slice_range s 3 60) (slice_range s 88 145) k d (get_or s (position_in_normal_burst k) d) first
      (λ i l e. slice-at s 3 60 i _ d (omega arith) (omega (arith, position-lower k (omega arith))))
      (λ i l e. slice-at s 88 145 i _ d (omega arith) (omega (arith, position-upper k (omega arith))))
      ∙ value-at k d hk

  pub AreCarried-joined : (coded : List X) → IsInterleaved coded (map coded_values joined) → AreCarried coded bursts
  AreCarried-joined coded spread = record {
    coded_count = spread.coded_count;
    positions = λ k d hk. sym (coded-at k d hk) ∙ spread.positions k d hk;
  }

  pub IsInterleaved-joined : (coded : List X) → AreCarried coded bursts → IsInterleaved coded (map coded_values joined)
  IsInterleaved-joined coded carried = record {
    coded_count = carried.coded_count;
    burst_count = length-map joined coded_values ∙ length-joined none bursts;
    burst_lengths = λ b d lt.
        let inside : b < length joined = omega (arith, length-map joined coded_values) in
        let long : length (get_or joined b []) ≡ 148 = IsBurst-joined none bursts b [] inside in
        ap length (get_or-map coded_values joined b [] d inside) ∙ simp (length-append, length-take, length-drop) (omega arith);
    positions = λ k d hk. coded-at k d hk ∙ carried.positions k d hk;
  }

-- ## Of equal halves: the joined block is that whose halves these are

pub same_block : {X : Type 0} (none : X) (block bursts : List (List X)) → length block ≡ 4 → All IsBurst block →
    ((b p : ℕ) → b < 4 → p < 148 → p % 2 ≡ 1 → get_or (get_or bursts b []) p none ≡ get_or (get_or block b []) p none) →
    ((b p : ℕ) → b < 4 → p < 148 → p % 2 ≡ 0 →
    get_or (get_or bursts (partner (length bursts) b) []) p none ≡ get_or (get_or block b []) p none) →
    joined_block none bursts ≡ block
same_block none block bursts four each odd even =
    let many = length-map-range_with_len (burst_of_block none bursts) 0 4 in
    ext_get_or [] _ _ (omega arith) (λ b hb.
    let below : b < 4 = omega arith in
    let long = each b [] (omega arith) in
    let last = get_or bursts (partner (length bursts) b) [] in
    let count = length-map-range_with_len (joined_value none (get_or bursts b []) last) 0 148 in
    get_or-map-range_with_len (burst_of_block none bursts) 0 4 b b [] below (omega arith)
    ∙ ext_get_or none _ _ (omega arith) (λ p hp.
    let small : p < 148 = omega arith in
    get_or-map-range_with_len (joined_value none (get_or bursts b []) last) 0 148 p p none small (omega arith)
    ∙ elim (cases_lt (p % 2) 1) [
      | inl zero ↦ let is : p % 2 ≡ 0 = omega arith in rw is (even b p below small is)
      | inr one ↦ let is : p % 2 ≡ 1 = omega arith in rw is (odd b p below small is)
    ]))
