-- Each coded bit has a position of its own among the 592 bits of four bursts, so n wrong bits make at most n coded bits wrong.
use Rattle.{
  bit_blocks.specs.{SoftValues.{count_wrong_bits, is_wrong_bit}, Bits.{AllBits, IsBit}},
  interleave.{
    proofs.{Bursts.halves-at, Positions.{burst_of_bit-below, position_in_four_bursts-below, position_in_four_bursts-differs}},
    proofs.Positions.{position_in_four_bursts-lower, position_in_four_bursts-upper},
    specs.{Bursts.IsInterleaved, Positions.{burst_of_bit, position_in_burst, position_in_four_bursts}},
  },
  std.{
    proofs.{
      Common.{Bool, Contains, false, inl, inr, map, nat_eq, pos, ◌≢◌, suc, true, zero, ℤ, ◌-◌, ◌||◌, List, [], ap, arith},
      Common.{drop, get_or, length, refl, sym, ℕ, ◌*◌, ◌++◌, ◌+◌, ◌<◌, ◌∙◌, ◌∷◌, ◌≡◌, ◌≤◌},
      lemmas.{Bool.{cases_Bool, eqb-true, Decides.nat_tests, or_parts, ne_eqb}, List.{get_or-append_right, get_or-drop, get_or-map}},
      lemmas.List.{get_or-take, get_or_append_left, length-take, Elements.{All-head, All-tail, All-map}, length-drop, length-map},
    },
    specs.{Prelude.slice_range, List.All},
  },
  um_block.{
    specs.{Received.{coded_soft_bits, joined_bursts, soft_bit_of, soft_bits}, Sent.{IsCodedBlock, IsSentBlock}},
    proofs.{SentBursts.{coded_block_bits, sent_block_bits, one_coded_block}, ReceivedBursts.IsBurst, Restoring.{halves, parts_of_bursts}},
    proofs.Restoring.{right, clean_gathered},
  },
}

joined_bursts-at : {X : Type 0} (bursts : List (List X)) (b i : ℕ) (d : X) → All IsBurst bursts → b < length bursts → i < 148 →
    get_or (joined_bursts bursts) (148 * b + i) d ≡ get_or (get_or bursts b []) i d
joined_bursts-at [] b i d each hb hi = absurd (omega arith)
joined_bursts-at (burst ∷ bursts) zero i d each hb hi =
    ap (λ q. get_or (burst ++ joined_bursts bursts) q d) (omega arith) ∙ get_or_append_left _ _ d i (omega arith)
joined_bursts-at (burst ∷ bursts) (suc b) i d each hb hi =
    get_or-append_right _ _ 148 _ d (All-head IsBurst burst bursts each) (omega arith)
    ∙ ap (λ q. get_or (joined_bursts bursts) q d) (omega arith)
    ∙ joined_bursts-at bursts b i d (All-tail IsBurst burst bursts each) (omega arith) hi

slice-at : {X : Type 0} (bursts : List (List X)) (b i j k p : ℕ) (d : X) → All IsBurst bursts → b < length bursts → i + k < 148 →
    k < j - i → 148 * b + (i + k) ≡ p → get_or (slice_range (get_or bursts b []) i j) k d ≡ get_or (joined_bursts bursts) p d
slice-at bursts b i j k p d each within below h at =
    get_or-take _ _ k d h ∙ get_or-drop i (get_or bursts b []) k d ∙ sym (joined_bursts-at bursts b (i + k) d each within below)
    ∙ ap (λ q. get_or (joined_bursts bursts) q d) at

at_burst_place : {X : Type 0} (bursts : List (List X)) (c : List X) (k : ℕ) (d : X) → length bursts ≡ 4 → All IsBurst bursts →
    IsInterleaved c (map halves bursts) → k < 456 → get_or c k d ≡ get_or (joined_bursts bursts) (position_in_four_bursts k) d
at_burst_place bursts c k d four each deinterleaved h =
    let b = burst_of_bit k in
    let s = get_or bursts b [] in
    let below : b < 4 = burst_of_bit-below k in
    let within : b < length bursts = omega arith in
    let first : length (slice_range s 3 60) ≡ 57 = omega (arith, length-take 57 (drop 3 s), length-drop 3 s) in
    sym (deinterleaved.positions k d h) ∙ ap (λ xs. get_or xs (position_in_burst k) d) (get_or-map halves bursts b [] [] within)
    ∙ halves-at (slice_range s 3 60) (slice_range s 88 145) k d (get_or (joined_bursts bursts) (position_in_four_bursts k) d) first
    (λ i l e. slice-at bursts b 3 60 i _ d each within (omega arith) l (omega (arith, position_in_four_bursts-lower k (omega arith))))
    (λ i l e. slice-at bursts b 88 145 i _ d each within (omega arith) l (omega (arith, position_in_four_bursts-upper k (omega arith))))

pub sent_place : (octets c : List ℕ) (tsc : ℕ) (sent : List (List ℕ)) → IsSentBlock octets tsc sent → IsCodedBlock octets c →
    (k : ℕ) → k < 456 → get_or (joined_bursts sent) (position_in_four_bursts k) 0 ≡ get_or c k 0
sent_place octets c tsc sent s code k h =
    let parts = sym (ap (map halves) s.layout ∙ parts_of_bursts _ tsc s.valid_tsc s.interleaved.burst_lengths) in
    let shape = sent_block_bits octets tsc sent s in
    let spread : IsInterleaved c (map halves sent) = rw (← one_coded_block octets _ c s.code code, ← parts) s.interleaved in
    sym (at_burst_place sent c k 0 shape.0 (λ b d lt. (shape.1 b d lt).right_length) spread h)

pub received_place : (bursts : List (List ℤ)) (soft : List ℤ) → length bursts ≡ 4 →
    All IsBurst bursts → IsInterleaved soft (map coded_soft_bits bursts) →
    (k : ℕ) → k < 456 → get_or soft k (pos 0) ≡ get_or (joined_bursts bursts) (position_in_four_bursts k) (pos 0)
received_place bursts soft four each deinterleaved k h = at_burst_place bursts _ k (pos 0) four each deinterleaved h

-- ---- lemmas about the number of wrong coded bits

unfoldable pub listed : ℕ → List ℕ → Bool
listed q [] = false
listed q (p ∷ ps) = nat_eq q p || listed q ps

-- one entry of the list that is q left out
without_one : (q : ℕ) (places : List ℕ) → listed q places ≡ true → (others : List ℕ) × (length places ≡ length others + 1)
    × ((r : ℕ) → r ≢ q → listed r others ≡ false → listed r places ≡ false)
unfolding listed
without_one q [] h = absurd (cc h)
without_one q (p ∷ places) h = elim (cases_Bool (nat_eq q p)) [
  | inl here ↦
      let same : q ≡ p = eqb-true q p here in
      (places, omega arith, λ r other none. rw (ne_eqb r p (λ e. other (e ∙ sym same)), none) refl)
  | inr there ↦
      let (others, fewer, out) = without_one q places (rw there at h) in (
        p ∷ others,
        omega (arith, fewer),
        λ r other none. let parts = or_parts (nat_eq r p) (listed r others) none in rw (parts.0, out r other parts.1) refl,
      )
]

-- each wrong soft bit takes an entry of the list, since no two coded bits have the same position
few_wrong_from : (soft : List ℤ) (c places : List ℕ) (a : ℕ) → length soft ≡ length c → a + length soft ≤ 456 →
    AllBits c → ((k : ℕ) → k < length soft → listed (position_in_four_bursts (a + k)) places ≡ false →
    get_or soft k (pos 0) ≡ soft_bit_of (get_or c k 0)) →
    count_wrong_bits soft c ≤ length places
few_wrong_from [] [] places a e within bits same = omega arith
few_wrong_from (p ∷ soft) (x ∷ c) places a e within bits same =
    let later = few_wrong_from soft c in
    let q = position_in_four_bursts a in
    elim (cases_Bool (listed q places)) [
      | inl hit ↦
          let (others, fewer, out) = without_one q places hit in
          let few = later others (a + 1) (omega arith) (omega arith) (All-tail IsBit x c bits) (λ k lt none.
          let shift : a + 1 + k ≡ a + suc k = omega arith in
          let other : position_in_four_bursts (a + suc k) ≢ q = λ again.
          let index = position_in_four_bursts-differs (a + suc k) a (omega arith) (omega arith) again in omega arith in
          same (suc k) (omega arith) (out (position_in_four_bursts (a + suc k)) other (rw shift at none))) in
          grind (arith, few, fewer)
      | inr miss ↦
          let first : a ≡ a + 0 = omega arith in
          let here : is_wrong_bit p x ≡ false =
          ap (λ v. is_wrong_bit v x) (same 0 (omega arith) (rw first at miss)) ∙ right x (All-head IsBit x c bits) in
          let few = later places (a + 1) (omega arith) (omega arith) (All-tail IsBit x c bits) (λ k lt none.
          let shift : a + 1 + k ≡ a + suc k = omega arith in
          same (suc k) (omega arith) (rw shift at none)) in
          grind (arith, here, few)
    ]
few_wrong_from soft c places a e within bits same = absurd (omega arith)

-- if soft bits differ from those of the coded bits only at the listed positions, no more soft bits are wrong than positions are listed
pub few_listed_positions : (soft : List ℤ) (c places : List ℕ) → length soft ≡ 456 → length c ≡ 456 → AllBits c →
    ((k : ℕ) → k < 456 → listed (position_in_four_bursts k) places ≡ false →
    get_or soft k (pos 0) ≡ soft_bit_of (get_or c k 0)) →
    count_wrong_bits soft c ≤ length places
few_listed_positions soft c places count long bits same =
    few_wrong_from soft c places 0 (count ∙ sym long) (omega arith) bits (λ k lt none.
    let first : 0 + k ≡ k = omega arith in
    same k (omega arith) (rw first at none))

not_among : (q : ℕ) (places : List ℕ) → listed q places ≡ false → Contains places q → ⊥
unfolding listed
not_among q [] h (n, lt, e) = omega arith
not_among q (p ∷ ps) h (zero, lt, e) = grind (arith, nat_tests)
not_among q (p ∷ ps) h (suc n, lt, e) = not_among q ps (or_parts _ _ h).1 (n, omega arith, e)

pub few_wrong : (octets c : List ℕ) (tsc : ℕ) (sent : List (List ℕ)) (bursts : List (List ℤ)) (soft : List ℤ)
    (places : List ℕ) → IsSentBlock octets tsc sent → IsCodedBlock octets c → length bursts ≡ 4 → All IsBurst bursts →
    IsInterleaved soft (map coded_soft_bits bursts) → ((q : ℕ) → q < 592 → (Contains places q → ⊥) →
    get_or (joined_bursts bursts) q (pos 0) ≡ get_or (joined_bursts (map soft_bits sent)) q (pos 0)) →
    count_wrong_bits soft c ≤ length places
few_wrong octets c tsc sent bursts soft places s code four each deinterleaved same =
    let bits = coded_block_bits octets c code in
    let clean : IsInterleaved (soft_bits c) (map coded_soft_bits (map soft_bits sent)) =
    rw (← one_coded_block octets s.coded_bits c s.code code) (clean_gathered octets tsc sent s) in
    let shape = sent_block_bits octets tsc sent s in
    few_listed_positions soft c places deinterleaved.coded_count bits.right_length bits.each (λ k h unlisted.
    let q = position_in_four_bursts k in
    received_place bursts soft four each deinterleaved k h ∙ same q (position_in_four_bursts-below k) (not_among q places unlisted)
    ∙ sym (received_place (map soft_bits sent) (soft_bits c) (length-map sent soft_bits ∙ shape.0)
    (All-map IsBurst soft_bits sent (λ b d lt. length-map _ soft_bit_of ∙ (shape.1 b d lt).right_length)) clean k h)
    ∙ get_or-map soft_bit_of c k 0 (pos 0) (omega arith))
