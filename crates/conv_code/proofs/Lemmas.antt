-- The encoder: its states, its coded bits octet by octet, and worked examples.
use Rattle.{
  bit_blocks.{
    proofs.Lemmas.{AllBits-append, AllBits-table, at_passes_below, bit_xor-bits, both_true, get_or-bits_of, length-bits_of, passes_below},
    specs.{Bits.{AllBits, IsBit}, Octets.bits_of, Packed.{AreCodedBitsPacked, bit_of}},
  },
  conv_code.specs.{
    Code.{IsEncoderInput, coded_pair, delayed_bit, encoding, g0_bit, g1_bit},
    Likelihood.{IsLexicographicallyBefore, IsMostLikely, RanksAfter, likelihood},
    States.{encoding_from_state, first_coded_bit, next_trellis_state, second_coded_bit},
    CodedPairs.HoldsFourCodedPairs,
  },
  std.{
    proofs.{
      Common.{Bool, List, [], append_assoc, ap, ap₂, arith, bit_and, bit_or, bit_xor, drop, eqb, false, get_or-set_other},
      Common.{get_or-set_same, get_or, if◌then◌else◌, inl, inr, length-append, length, nat_lt, negsuc, pos, refl, replicate, subst},
      Common.{suc, sym, take, true, zero-add, zero, ℕ, ℤ, ◌%◌, ◌&&◌, ◌*◌, ◌++◌, ◌+◌, ◌-◌, ◌/◌, ◌<◌},
      Common.{◌^◌, ◌∙◌, ◌∷◌, ◌≡◌, ◌≢◌, ◌≤◌, ◌⊎◌},
      Math.{ListN.set, Nat.zero-div, Seq.{drop-append_seam, drop-cons, drop-length}},
      lemmas.{Bool.{Decides.{Decides-eqb, nat_tests}, cases_eq, cases_lt}, Grind.flat_map-append, Int.ints, List.Elements.All-cons},
      lemmas.List.{Elements.All-nil, FromFn.{get_or-range_with_len, length-range_with_len}, get_or_append_left, get_or_past, length-set},
      lemmas.{List.take_more_set, Nat.and_mask},
    },
    specs.List.{All, flat_map, range_with_len},
  },
}

-- ## Lists: A bit list that ends in four tail bits is an encoder input. Its encoding has two coded bits for each bit of the list.

abbrev IsZero : ℕ → Type 0
IsZero bit = bit ≡ 0

zeros : (n : ℕ) → All IsZero (replicate n 0)
zeros zero = All-nil IsZero
zeros (suc n) = All-cons IsZero 0 _ refl (zeros n)

pub IsEncoderInput-tail : (word : List ℕ) → 0 < length word → AllBits word → IsEncoderInput (word ++ replicate 4 0)
IsEncoderInput-tail word some bits =
    let four : List ℕ = replicate 4 0 in
    let long = length-append word four in
    let front : length (word ++ four) - 4 ≡ length word = omega arith in
    record {
      count = omega arith;
      bits = AllBits-append word four bits (AllBits-table four refl);
      tail = subst (All IsZero) (sym (ap (λ n. drop n (word ++ four)) front ∙ drop-append_seam word four)) (zeros 4);
    }

AllBits-pairs : (u ks : List ℕ) → AllBits (flat_map (coded_pair u) ks)
AllBits-pairs u [] = All-nil IsBit
AllBits-pairs u (k ∷ ks) =
    All-cons IsBit (g0_bit u k) (g1_bit u k ∷ flat_map (coded_pair u) ks) (omega arith)
    (All-cons IsBit (g1_bit u k) (flat_map (coded_pair u) ks) (omega arith) (AllBits-pairs u ks))

pub AllBits-coded : (u : List ℕ) → AllBits (encoding u)
AllBits-coded u = AllBits-pairs u _

length-pairs : (u ks : List ℕ) → length (flat_map (coded_pair u) ks) ≡ 2 * length ks
length-pairs u [] = refl
length-pairs u (k ∷ ks) = let rest = length-pairs u ks in omega arith

pub length-coded : (u : List ℕ) → length (encoding u) ≡ 2 * length u
length-coded u = rw (length-pairs u (range_with_len 0 (length u)), length-range_with_len) refl

-- ## Coding: The encoder's loop extends the coded bits by one pair at a time.

delayed_bit-more : (u : List ℕ) (k d e : ℕ) → e ≡ d + 1 → delayed_bit u (k + 1) e ≡ delayed_bit u k d
delayed_bit-more u k d e h = grind arith

delayed_bit-none : (u : List ℕ) (k : ℕ) → delayed_bit u k 0 ≡ get_or u k 0
delayed_bit-none u k = grind arith

pub delayed_bit-late : (u : List ℕ) (k d : ℕ) → d ≤ k → delayed_bit u k d ≡ get_or u (k - d) 0
delayed_bit-late u k d h = grind arith

pub bit_at-most_1 : (u : List ℕ) (k : ℕ) → AllBits u → get_or u k 0 ≤ 1
bit_at-most_1 u k bits = elim (cases_lt k (length u)) [
  | inl within ↦ bits k 0 within
  | inr past ↦ rw get_or_past (omega arith)
]

pub delayed_bit-at_most_1 : (u : List ℕ) (k d : ℕ) → AllBits u → delayed_bit u k d ≤ 1
delayed_bit-at_most_1 u k d bits =
    elim (nat_lt k d) as (λ early. (if early then 0 else get_or u (k - d) 0) ≤ 1) [
      | true ↦ omega arith
      | false ↦ bit_at-most_1 u _ bits
    ]

pub first_by_xor : (x three four : ℕ) → x ≤ 1 → three ≤ 1 → four ≤ 1 →
    bit_xor (bit_xor x three) four ≡ (x + three + four) % 2
first_by_xor x three four hx h3 h4 =
    rw (bit_xor-bits x _ hx h3, bit_xor-bits ((x + three) % 2) four (omega arith) h4) (omega arith)

pub second_by_xor : (x one three four : ℕ) → x ≤ 1 → one ≤ 1 → three ≤ 1 → four ≤ 1 →
    bit_xor (bit_xor (bit_xor x three) four) one ≡ (x + one + three + four) % 2
second_by_xor x one three four hx h1 h3 h4 =
    rw (first_by_xor x _ four hx h3 h4, bit_xor-bits ((x + three + four) % 2) one (omega arith) h1) (omega arith)

pub range_more : (a n last : ℕ) → a + n ≡ last → range_with_len a (n + 1) ≡ range_with_len a n ++ last ∷ []
range_more a zero last e = ap (λ x. x ∷ []) (omega arith)
range_more a (suc n) last e =
    let longer : suc n + 1 ≡ suc (n + 1) = omega arith in
    rw longer (ap (λ rest. a ∷ rest) (range_more (a + 1) n last (omega arith)))

pub coded_more : (u out : List ℕ) (k a b : ℕ) → 2 * k + 1 < length out →
    take (2 * k) out ≡ flat_map (coded_pair u) (range_with_len 0 k) → a ≡ g0_bit u k → b ≡ g1_bit u k →
    take (2 * (k + 1)) (set (set out (2 * k) a) (2 * k + 1) b) ≡ flat_map (coded_pair u) (range_with_len 0 (k + 1))
coded_more u out k a b within before first second =
    let two : 2 * (k + 1) ≡ 2 * k + 1 + 1 = omega arith in
    rw (
      two,
      take_more_set (set out (2 * k) a) (2 * k + 1) b (rw length-set within),
      take_more_set out (2 * k) a (omega arith),
      before,
      range_more 0 k k (zero-add k),
      flat_map-append (coded_pair u) (range_with_len 0 k) (k ∷ []),
      first,
      second,
    )
    (append_assoc (flat_map (coded_pair u) (range_with_len 0 k)) (g0_bit u k ∷ []) (g1_bit u k ∷ []))

-- ## States: The generator sums give the same coded bits as the state machine that starts in state 0.

pub state_at : List ℕ → ℕ → ℕ
state_at u k = delayed_bit u k 1 + 2 * delayed_bit u k 2 + 4 * delayed_bit u k 3 + 8 * delayed_bit u k 4

next_state : (u : List ℕ) (k : ℕ) → AllBits u → next_trellis_state (state_at u k) (get_or u k 0) ≡ state_at u (k + 1)
unfolding state_at
next_state u k bits =
    let x = bit_at-most_1 u k bits in
    let one = delayed_bit-at_most_1 u k 1 bits in
    let two = delayed_bit-at_most_1 u k 2 bits in
    let three = delayed_bit-at_most_1 u k 3 bits in
    let four = delayed_bit-at_most_1 u k 4 bits in
    rw (
      delayed_bit-more u k 0 1 refl,
      delayed_bit-more u k 1 2 refl,
      delayed_bit-more u k 2 3 refl,
      delayed_bit-more u k 3 4 refl,
      delayed_bit-none u k,
    )
    (omega arith)

first_of_state : (u : List ℕ) (k : ℕ) → AllBits u → g0_bit u k ≡ first_coded_bit (state_at u k) (get_or u k 0)
unfolding state_at
first_of_state u k bits =
    let one = delayed_bit-at_most_1 u k 1 bits in
    let two = delayed_bit-at_most_1 u k 2 bits in
    let three = delayed_bit-at_most_1 u k 3 bits in
    omega arith

second_of_state : (u : List ℕ) (k : ℕ) → AllBits u → g1_bit u k ≡ second_coded_bit (state_at u k) (get_or u k 0)
unfolding state_at
second_of_state u k bits =
    let one = delayed_bit-at_most_1 u k 1 bits in
    let two = delayed_bit-at_most_1 u k 2 bits in
    let three = delayed_bit-at_most_1 u k 3 bits in
    omega arith

coded_from_place : (u : List ℕ) (k n : ℕ) → AllBits u → k + n ≡ length u →
    flat_map (coded_pair u) (range_with_len k n) ≡ encoding_from_state (state_at u k) (drop k u)
coded_from_place u k zero bits e =
    let end : k ≡ length u = omega arith in
    rw (end, drop-length) refl
coded_from_place u k (suc n) bits e =
    let within : k < length u = omega arith in
    let more : k + 1 ≡ suc k = omega arith in
    rw (drop-cons u k 0, first_of_state u k bits, second_of_state u k bits, next_state u k bits)
    (ap (λ rest. first_coded_bit (state_at u k) (get_or u k 0) ∷ second_coded_bit (state_at u k) (get_or u k 0) ∷ rest)
    (coded_from_place u (k + 1) n bits (omega arith) ∙ ap (λ j. encoding_from_state (state_at u (k + 1)) (drop j u)) more))

pub coded_from_start : (u : List ℕ) → AllBits u → encoding u ≡ encoding_from_state 0 u
unfolding state_at
coded_from_start u bits = coded_from_place u 0 _ bits (omega arith)

-- ## PackedCode: `encode_packed` writes the coded bits. Its operations on one octet are checked by computation for all 256 octets. Each
-- octet gives two groups of four coded pairs; the first group is computed from eight bits that begin in the octet before.

-- ---- lemmas about the coded bits that `encode_upper_four_bits` computes from eight information bits

-- the octet of coded bits that `encode_upper_four_bits` computes from eight bits
abbrev pub quad_of : ℕ → ℕ
quad_of straddling_octet =
    let first = bit_xor (bit_xor (straddling_octet / 2 ^ 4) (straddling_octet / 2 ^ 1)) straddling_octet in
    bit_or (bit_and first 15) (bit_and (bit_xor first (straddling_octet / 2 ^ 3)) 15 * 2 ^ 4 % 2 ^ 8)

abbrev is_first : ℕ → ℕ → Bool
is_first x i = eqb (bit_of (quad_of x) i) ((bit_of x (i + 4) + bit_of x (i + 1) + bit_of x i) % 2)

abbrev is_second : ℕ → ℕ → Bool
is_second x i = eqb (bit_of (quad_of x) (i + 4)) ((bit_of x (i + 4) + bit_of x (i + 3) + bit_of x (i + 1) + bit_of x i) % 2)

every_first : passes_below (λ x. passes_below (is_first x) 4) 256 ≡ true
unfolding passes_below
every_first = cc

every_second : passes_below (λ x. passes_below (is_second x) 4) 256 ≡ true
unfolding passes_below
every_second = cc

pub quad_first : (x i : ℕ) → x < 256 → i < 4 → bit_of (quad_of x) i ≡ (bit_of x (i + 4) + bit_of x (i + 1) + bit_of x i) % 2
quad_first x i hx hi =
    (Decides-eqb (bit_of (quad_of x) i) _).0
    (at_passes_below (is_first x) 4 (at_passes_below (λ x. passes_below (is_first x) 4) 256 every_first x hx) i hi)

pub quad_second : (x i : ℕ) → x < 256 → i < 4 →
    bit_of (quad_of x) (i + 4) ≡ (bit_of x (i + 4) + bit_of x (i + 3) + bit_of x (i + 1) + bit_of x i) % 2
quad_second x i hx hi =
    let octet = at_passes_below _ 256 every_second x hx in
    (Decides-eqb (bit_of (quad_of x) (i + 4)) _).0
    (at_passes_below (is_second x) 4 octet i hi)

-- ---- lemmas about the octet that joins the last four bits of an octet and the first four of the next

abbrev joined : ℕ → ℕ → ℕ
joined low high = bit_or low (high * 2 ^ 4 % 2 ^ 8)

abbrev is_low : ℕ → ℕ → Bool
is_low x i = eqb (bit_of (joined (x / 16) (x % 16)) i) (bit_of (x / 16) i)

abbrev is_high : ℕ → ℕ → Bool
is_high x i = eqb (bit_of (joined (x / 16) (x % 16)) (i + 4)) (bit_of (x % 16) i)

abbrev is_shifted : ℕ → ℕ → Bool
is_shifted x i = eqb (bit_of (x / 2 ^ 4) i) (bit_of x (i + 4))

abbrev is_masked : ℕ → ℕ → Bool
is_masked x i = eqb (bit_of (bit_and x 15) i) (bit_of x i)

abbrev is_window : ℕ → ℕ → Bool
is_window x i = (is_low x i && is_high x i) && (is_shifted x i && is_masked x i)

every_window : passes_below (λ x. passes_below (is_window x) 4) 256 ≡ true
unfolding passes_below
every_window = refl

record IsWindow (x i : ℕ) : Type 0 where
  low_bit : bit_of (joined (x / 16) (x % 16)) i ≡ bit_of (x / 16) i
  high_bit : bit_of (joined (x / 16) (x % 16)) (i + 4) ≡ bit_of (x % 16) i
  shifted : bit_of (x / 2 ^ 4) i ≡ bit_of x (i + 4)
  masked : bit_of (bit_and x 15) i ≡ bit_of x i

window_bits : (x i : ℕ) → x < 256 → i < 4 → IsWindow x i
window_bits x i hx hi =
    let row = at_passes_below (λ x. passes_below (is_window x) 4) 256 every_window x hx in
    let halves = both_true (is_low x i && is_high x i) (is_shifted x i && is_masked x i) (at_passes_below (is_window x) 4 row i hi) in
    let ends = both_true (is_low x i) (is_high x i) halves.0 in
    let parts = both_true (is_shifted x i) (is_masked x i) halves.1 in
    record {
      low_bit = (Decides-eqb (bit_of (joined (x / 16) (x % 16)) i) (bit_of (x / 16) i)).0 ends.0;
      high_bit = (Decides-eqb _ (bit_of (x % 16) i)).0 ends.1;
      shifted = (Decides-eqb (bit_of (x / 2 ^ 4) i) (bit_of x (i + 4))).0 parts.0;
      masked = (Decides-eqb (bit_of (bit_and x 15) i) (bit_of x i)).0 parts.1;
    }

module _ (before here : ℕ) (hb : before < 256) (hh : here < 256) where
  abbrev halves : ℕ
  halves = 16 * (before / 2 ^ 4) + bit_and here 15

  low_half : bit_and here 15 < 16
  low_half = rw (and_mask here 4) (omega arith)

  joined_bits : (i : ℕ) → i < 4 → IsWindow halves i
  joined_bits i hi = let small = low_half in window_bits halves i (omega arith) hi

  upper : halves / 16 ≡ before / 2 ^ 4
  upper = let small = low_half in omega arith

  lower : halves % 16 ≡ bit_and here 15
  lower = let small = low_half in omega arith

  pub window_low : (i : ℕ) → i < 4 → bit_of (joined (before / 2 ^ 4) (bit_and here 15)) i ≡ bit_of before (i + 4)
  window_low i hi = rw (upper, lower) at (joined_bits i hi).low_bit ∙ (window_bits before i hb hi).shifted

  pub window_high : (i : ℕ) → i < 4 → bit_of (joined (before / 2 ^ 4) (bit_and here 15)) (i + 4) ≡ bit_of here i
  window_high i hi = rw (upper, lower) at (joined_bits i hi).high_bit ∙ (window_bits here i hh hi).masked

-- ---- lemmas about one step of the loop, which writes two more octets of coded bits

module _ (bits : List ℕ) (straddling_octet octet t : ℕ)
    (is : (n : ℕ) → n < 8 → bit_of straddling_octet n ≡ get_or bits (4 * t + 4 + n) 0)
    (first : (i : ℕ) → i < 4 → bit_of octet
    i ≡ (bit_of straddling_octet (i + 4) + bit_of straddling_octet (i + 1) + bit_of straddling_octet i) % 2)
    (second : (i : ℕ) → i < 4 →
    bit_of octet (i + 4) ≡ (bit_of straddling_octet (i + 4) + bit_of straddling_octet (i + 3) + bit_of straddling_octet (i + 1) + bit_of
    straddling_octet i) % 2)
  where
    bit_is : (n j : ℕ) → n < 8 → 4 * t + 4 + n ≡ j → bit_of straddling_octet n ≡ get_or bits j 0
    bit_is n j hn at = is n hn ∙ ap (λ j. get_or bits j 0) at

    pub HoldsFourCodedPairs-straddling_octet : HoldsFourCodedPairs bits octet t
    HoldsFourCodedPairs-straddling_octet = record {
      first_bits = λ i hi.
          let here = bit_is (i + 4) (4 * t + 8 + i) (omega arith) (omega arith) in
          let three = bit_is (i + 1) (4 * t + 5 + i) (omega arith) (omega arith) in
          let four = bit_is i (4 * t + 4 + i) (omega arith) refl in
          rw (here, three, four) at (first i hi);
      second_bits = λ i hi.
          let here = bit_is (i + 4) (4 * t + 8 + i) (omega arith) (omega arith) in
          let one = bit_is (i + 3) (4 * t + 7 + i) (omega arith) (omega arith) in
          let three = bit_is (i + 1) (4 * t + 5 + i) (omega arith) (omega arith) in
          rw (here, one, three, bit_is i (4 * t + 4 + i) (omega arith) refl) at (second i hi);
    }

module _ (octets : List ℕ) (m : ℕ) where
  pub even_window : (straddling_octet : ℕ) →
      ((i : ℕ) → i < 4 → bit_of straddling_octet i ≡ bit_of (get_or octets m 0) (i + 4)) →
      ((i : ℕ) → i < 4 → bit_of straddling_octet (i + 4) ≡ bit_of (get_or octets (m + 1) 0) i) →
      (n : ℕ) → n < 8 → bit_of straddling_octet n ≡ get_or (bits_of octets) (4 * (2 * m) + 4 + n) 0
  even_window straddling_octet low high n hn =
      elim (cases_lt n 4) [
        | inl front ↦
            let at : 8 * m + (n + 4) ≡ 4 * (2 * m) + 4 + n = omega arith in
            low n front
            ∙ sym (get_or-bits_of octets m (n + 4) (omega arith))
            ∙ ap (λ j. get_or (bits_of octets) j 0) at
        | inr back ↦
            ap (bit_of straddling_octet) (omega arith)
            ∙ high (n - 4) (omega arith)
            ∙ sym (get_or-bits_of octets (m + 1) (n - 4) (omega arith))
            ∙ ap (λ j. get_or (bits_of octets) j 0) (omega arith)
      ]

  pub odd_window : (n : ℕ) → n < 8 → bit_of (get_or octets (m + 1) 0) n ≡ get_or (bits_of octets) (4 * (2 * m + 1) + 4 + n) 0
  odd_window n hn =
      sym (get_or-bits_of octets (m + 1) n hn) ∙ ap (λ j. get_or (bits_of octets) j 0) (omega arith)

pub quads_more : (bits packed : List ℕ) (m a b : ℕ) → length packed ≡ 64 → m < 32 → HoldsFourCodedPairs bits a (2 * m) →
    HoldsFourCodedPairs bits b (2 * m + 1) →
    ((t : ℕ) → t < 2 * m → HoldsFourCodedPairs bits (get_or packed t 0) t) →
    (t : ℕ) → t < 2 * (m + 1) → HoldsFourCodedPairs bits (get_or (set (set packed (2 * m) a) (2 * m + 1) b) t 0) t
quads_more bits packed m a b long hm even odd before t ht =
    let room : 2 * m < length packed = omega arith in
    let rest : 2 * m + 1 < length (set packed (2 * m) a) = simp length-set (omega arith) in
    elim (cases_eq t (2 * m + 1)) [
      | inl last ↦ rw last (rw get_or-set_same odd)
      | inr other ↦
          rw get_or-set_other (elim (cases_eq t (2 * m)) [
            | inl here ↦ rw here (rw get_or-set_same even)
            | inr earlier ↦ rw get_or-set_other (before t (omega arith))
          ])
    ]

-- ---- lemmas about each coded bit, as the definition gives it

pairs_at : (u ks : List ℕ) (k : ℕ) → k < length ks → (get_or (flat_map (coded_pair u) ks) (2 * k) 0 ≡ g0_bit u (get_or ks k 0)) ×
    (get_or (flat_map (coded_pair u) ks) (2 * k + 1) 0 ≡ g1_bit u (get_or ks k 0))
pairs_at u (x ∷ ks) zero lt = (refl, refl)
pairs_at u (x ∷ ks) (suc k) lt =
    let first : 2 * suc k ≡ suc (suc (2 * k)) = omega arith in
    let second : 2 * suc k + 1 ≡ suc (suc (2 * k + 1)) = omega arith in
    let rest = pairs_at u ks k (omega arith) in
    (rw first rest.0, rw second rest.1)
pairs_at u ks k lt = absurd (omega arith)

coded_at : (u : List ℕ) (k : ℕ) → k < length u → (get_or (encoding u) (2 * k) 0 ≡ g0_bit u k) ×
    (get_or (encoding u) (2 * k + 1) 0 ≡ g1_bit u k)
coded_at u k lt =
    let at : get_or (range_with_len 0 (length u)) k 0 ≡ k = get_or-range_with_len 0 (length u) k 0 lt ∙ zero-add k in
    rw at at (pairs_at u (range_with_len 0 (length u)) k (omega (arith, length-range_with_len)))

-- ---- lemmas about the information bits with eight zeros before them

module _ (octets : List ℕ) (k : ℕ) where
  abbrev bits : List ℕ
  bits = bits_of octets

  abbrev behind : List ℕ
  behind = bits_of (0 ∷ octets)

  behind_at : (j : ℕ) → get_or behind (8 + j) 0 ≡ get_or bits j 0
  behind_at j =
      let at : 8 + j ≡ suc (suc (suc (suc (suc (suc (suc (suc j))))))) = omega arith in
      ap (λ n. get_or behind n 0) at

  behind_none : (j : ℕ) → j < 8 → get_or behind j 0 ≡ 0
  behind_none j lt =
      ap (λ n. get_or behind n 0) (omega arith) ∙ get_or-bits_of (0 ∷ octets) 0 j lt ∙ ap (λ n. n % 2) (zero-div (2 ^ j))

  delayed_is : (d j : ℕ) → d ≤ 8 → k + 8 ≡ j + d → delayed_bit bits k d ≡ get_or behind j 0
  delayed_is d j hd at =
      elim (cases_lt k d) [
        | inl early ↦
            (grind (arith, nat_tests)) ∙ sym (behind_none j (omega arith))
        | inr late ↦
            delayed_bit-late bits k d late ∙ sym (behind_at (k - d)) ∙ ap (λ n. get_or behind n 0) (omega arith)
      ]

  here_is : get_or bits k 0 ≡ get_or behind (k + 8) 0
  here_is = sym (behind_at k) ∙ ap (λ n. get_or behind n 0) (omega arith)

  first_is : (x : ℕ) → x ≡ (get_or behind (k + 8) 0 + get_or behind (k + 5) 0 + get_or behind (k + 4) 0) % 2 → x ≡ g0_bit bits k
  first_is x is = rw (here_is, delayed_is 3 (k + 5) (omega arith) (omega arith), delayed_is 4 (k + 4) (omega arith) (omega arith)) is

  second_is : (x : ℕ) →
      x ≡ (get_or behind (k + 8) 0 + get_or behind (k + 7) 0 + get_or behind (k + 5) 0 + get_or behind (k + 4) 0) % 2
      → x ≡ g1_bit bits k
  second_is x is =
      rw (
        here_is,
        delayed_is 1 (k + 7) (omega arith) (omega arith),
        delayed_is 3 (k + 5) (omega arith) (omega arith),
        delayed_is 4 (k + 4) (omega arith) (omega arith),
      ) is

pub AreCodedBitsPacked-encode_four_bits_per_octet : (octets packed : List ℕ) → length octets ≡ 32 →
    ((t : ℕ) → t < 64 → HoldsFourCodedPairs (bits_of (0 ∷ octets)) (get_or packed t 0) t) →
    AreCodedBitsPacked 64 (encoding (bits_of octets)) packed
AreCodedBitsPacked-encode_four_bits_per_octet octets packed long encode_four_bits_per_octet t r ht hr =
    let encode_upper_four_bits = encode_four_bits_per_octet t ht in
    let i = r / 2 in
    let k = 4 * t + i in
    let hi : i < 4 = omega arith in
    let within : k < length (bits_of octets) = omega (arith, length-bits_of) in
    let at_8 : k + 8 ≡ 4 * t + 8 + i = omega arith in
    let at_5 : k + 5 ≡ 4 * t + 5 + i = omega arith in
    let at_4 : k + 4 ≡ 4 * t + 4 + i = omega arith in
    let at_7 : k + 7 ≡ 4 * t + 7 + i = omega arith in
    elim (cases_lt (r % 2) 1) [
      | inl even ↦
          ap (bit_of (get_or packed t 0)) (omega arith)
          ∙ first_is octets k (bit_of (get_or packed t 0) i) (rw (at_8, at_5, at_4) (encode_upper_four_bits.first_bits i hi))
          ∙ sym (coded_at (bits_of octets) k within).0
          ∙ ap (λ n. get_or (encoding (bits_of octets)) n 0) (omega arith)
      | inr odd ↦
          ap (bit_of (get_or packed t 0)) (omega arith)
          ∙ second_is octets k (bit_of (get_or packed t 0) (i + 4))
          (rw (at_8, at_7, at_5, at_4) (encode_upper_four_bits.second_bits i hi))
          ∙ sym (coded_at (bits_of octets) k within).1
          ∙ ap (λ n. get_or (encoding (bits_of octets)) n 0) (omega arith)
    ]

-- ---- lemmas about the coded bits of the front of a list

module _ (u rest : List ℕ) (k : ℕ) (lt : k < length u) where
  longer : k < length (u ++ rest)
  longer = omega (arith, length-append u rest)

  delayed_front : (d : ℕ) → delayed_bit (u ++ rest) k d ≡ delayed_bit u k d
  delayed_front d =
      let same = get_or_append_left u rest 0 (k - d) (omega arith) in
      ap (λ bit. if nat_lt k d then 0 else bit) same

  here_front : get_or (u ++ rest) k 0 ≡ get_or u k 0
  here_front = get_or_append_left u rest 0 k lt

  front_first : get_or (encoding (u ++ rest)) (2 * k) 0 ≡ get_or (encoding u) (2 * k) 0
  front_first =
      rw ((coded_at (u ++ rest) k longer).0, (coded_at u k lt).0, here_front, delayed_front 3, delayed_front 4) refl

  front_second : get_or (encoding (u ++ rest)) (2 * k + 1) 0 ≡ get_or (encoding u) (2 * k + 1) 0
  front_second =
      rw ((coded_at (u ++ rest) k longer).1, (coded_at u k lt).1, here_front, delayed_front 1, delayed_front 3, delayed_front 4) refl

pub AreCodedBitsPacked-front : (m n : ℕ) (u rest octets : List ℕ) → n ≤ m → 4 * n ≤ length u →
    AreCodedBitsPacked m (encoding (u ++ rest)) octets →
    AreCodedBitsPacked n (encoding u) octets
AreCodedBitsPacked-front m n u rest octets le long are t r ht hr =
    let k = 4 * t + r / 2 in
    let within : k < length u = omega arith in
    are t r (omega arith) hr
    ∙ elim (cases_lt (r % 2) 1) [
      | inl even ↦
          let at : 2 * k ≡ 8 * t + r = omega arith in rw (← at) (front_first u rest k within)
      | inr odd ↦
          let at : 2 * k + 1 ≡ 8 * t + r = omega arith in rw (← at) (front_second u rest k within)
    ]

-- ## OneBest: The most likely encoder input is unique, since two encoder inputs cannot each rank after the other.

pub same_number : (x y : ℕ) → (x ≡ y) ⊎ (x ≢ y)
same_number x y = grind arith

pub same_list : (u v : List ℕ) → (u ≡ v) ⊎ (u ≢ v)
same_list [] [] = inl refl
same_list [] (y ∷ v) = inr (λ e. cc)
same_list (x ∷ u) [] = inr (λ e. cc)
same_list (x ∷ u) (y ∷ v) = elim (same_number x y) [
  | inl head ↦ elim (same_list u v) [ inl tail ↦ inl (ap₂ (λ z w. z ∷ w) head tail) | inr other ↦ inr (λ e. other (cc)) ]
  | inr other ↦ inr (λ e. other (cc))
]

IsLexicographicallyBefore-one_way : (u v : List ℕ) → IsLexicographicallyBefore u v → IsLexicographicallyBefore v u → ⊥
IsLexicographicallyBefore-one_way u v h g = grind arith

pub RanksAfter-one_way : (s : List ℤ) (u v : List ℕ) → RanksAfter s v u → RanksAfter s u v → ⊥
RanksAfter-one_way s u v (inl less) (inl more) = omega (arith, ints)
RanksAfter-one_way s u v (inl less) (inr same) = omega (arith, ints)
RanksAfter-one_way s u v (inr same) (inl more) = omega (arith, ints)
RanksAfter-one_way s u v (inr same) (inr same') = IsLexicographicallyBefore-one_way u v same.1 same'.1

pub IsMostLikely-only : (s : List ℤ) (u v : List ℕ) → IsMostLikely s u → IsMostLikely s v → v ≡ u
IsMostLikely-only s u v h g =
    let same_length : length v ≡ length u = omega arith in
    elim (same_list v u) [
      | inl same ↦ same
      | inr other ↦ absurd (RanksAfter-one_way s u v
          (h.others v g.information same_length other)
          (g.others u h.information (sym same_length) (λ e. other (sym e))))
    ]

-- ## Checks: The definitions, computed for worked examples.

-- the coded bits of eight information bits 0 on the RACH with BSIC 0; the six CRC bits are ones
coded-access : encoding (replicate 8 0 ++ replicate 6 1 ++ replicate 4 0) ≡
    replicate 16 0 ++ (1 ∷ 1 ∷ 1 ∷ 0 ∷ 1 ∷ 0 ∷ 0 ∷ 1 ∷ 1 ∷ 0 ∷ 1 ∷ 0 ∷ 0 ∷ 1 ∷ 0 ∷ 0 ∷ 0 ∷ 0 ∷ 1 ∷ 1
    ∷ [])
coded-access = cc

-- the coded bits of a block of zeros; its forty Fire code bits are ones
coded-block : encoding (replicate 184 0 ++ replicate 40 1 ++ replicate 4 0) ≡
    replicate 368 0 ++ (1 ∷ 1 ∷ 1 ∷ 0 ∷ 1 ∷ 0 ∷ 0 ∷ 1 ∷ []) ++ flat_map {X = ℕ} (λ _. 1 ∷ 0 ∷ []) (replicate 36 0) ++
    (0 ∷ 1 ∷ 0 ∷ 0 ∷ 0 ∷ 0 ∷ 1 ∷ 1 ∷ [])
coded-block = refl

coded-zeros : encoding (replicate 228 0) ≡ replicate 456 0
coded-zeros = cc

-- one wrong soft bit of strength 7 among 35 right ones of strength 1: two other encoder inputs have a greater path metric than the sent
-- one, which consists of zeros
abbrev one_strong : List ℤ
one_strong = negsuc 6 ∷ replicate 35 (pos 1)

likelihood-zeros : likelihood one_strong (encoding (replicate 18 0)) ≡ pos 28
likelihood-zeros = cc

likelihood-first_one : likelihood one_strong (encoding (1 ∷ replicate 17 0)) ≡ pos 30
likelihood-first_one = cc

likelihood-first_three : likelihood one_strong (encoding (replicate 3 1 ++ replicate 15 0)) ≡ pos 30
likelihood-first_three = cc

-- two wrong soft bits at the end: a last bit 1 would have a greater path metric, but the last four bits of an encoder input are 0
abbrev last_two_wrong : List ℤ
last_two_wrong = replicate 34 (pos 1) ++ replicate 2 (negsuc 0)

likelihood-last_zero : likelihood last_two_wrong (encoding (replicate 18 0)) ≡ pos 32
likelihood-last_zero = cc

likelihood-last_one : likelihood last_two_wrong (encoding (replicate 17 0 ++ 1 ∷ [])) ≡ pos 36
likelihood-last_one = cc
