-- The search for a codeword finds the only repair, or there is none.
use Rattle.{
  fire_code.{proofs.Lemmas.is_xcch_crc, specs.{Crcs.xcch_crc, Words.IsXcchCodeword, bit_blocks.Bits.{AllBits, IsBit}}},
  fire_repair.{
    proofs.RepairResults.{one_repair, some_answer},
    specs.{
      Answers.IsRepairResult,
      Repairs.{IsRepair, IsSpanOfChangedBits},
      declared.repairs.RepairAnswer.{RepairAnswer, TheVariants.{Holds, NoRepair, Repaired}},
    },
  },
  std.{
    proofs.{
      Math.Logic.◌↔◌,
      Common.{List, None, Option, Some, [], ap, append_assoc, arith, drop, false, get_or, inl, inr, length, min, refl, subst, suc, sym},
      Common.{take, true, zero},
      Common.{ℕ, ◌++◌, ◌+◌, ◌-◌, ◌<◌, ◌∙◌, ◌∷◌, ◌≡◌, ◌≢◌, ◌≤◌, nat_eq},
      lemmas.{Bool.{cases_Bool, cases_lt}, Grind.{elements, same_number_lists}, Slice.Eq.bytes_eq-Decides},
      lemmas.List.{
        Elements.{All-append, All-cons, All-drop, All-head, All-nil, All-tail, All-take},
        length-take-le,
        get_or_past,
        take-append-drop,
      },
    },
    specs.Prelude.MatchOption,
  },
  um_repair.specs.RepairRules.{codeword_between, codeword_near, end_of_differences, first_difference, first_of, is_codeword, repair_result},
  um_repair.specs.RepairRules.repair_to,
}

-- ## Codewords: The last 40 bits of a codeword are the check bits of the others.

module _ (w : List ℕ) (count : length w ≡ 224) (bits : AllBits w) where
  both : (drop 184 w ≡ xcch_crc (take 184 w)) ↔ IsXcchCodeword (take 184 w ++ drop 184 w)
  both = is_xcch_crc (take 184 w) (drop 184 w) (length-take-le 184 w (omega arith)) (All-take IsBit 184 w bits)

  codeword_if : is_codeword w ≡ true → IsXcchCodeword w
  codeword_if is = rw take-append-drop at (both.0 ((bytes_eq-Decides (drop 184 w) (xcch_crc (take 184 w))).0 is))

  is_codeword_if : IsXcchCodeword w → is_codeword w ≡ true
  is_codeword_if is = (bytes_eq-Decides (drop 184 w) (xcch_crc (take 184 w))).1 (both.1 (rw take-append-drop is))

-- ## Between: The search among all words with the same bits but in one place.

record IsFilledIn (n : ℕ) (front back v : List ℕ) : Type 0 where
  piece : List ℕ
  count : length piece ≡ n
  bits : AllBits piece
  sum : v ≡ front ++ (piece ++ back)
  codeword : is_codeword v ≡ true

abbrev NoneFilledIn : ℕ → List ℕ → List ℕ → Type 0
NoneFilledIn n front back = (piece : List ℕ) → length piece ≡ n → AllBits piece → is_codeword (front ++ (piece ++ back)) ≡ false

module _ (n : ℕ) (front back : List ℕ) where
  abbrev after : ℕ → List ℕ
  after bit = front ++ bit ∷ []

  longer : (bit : ℕ) → IsBit bit → (v : List ℕ) → IsFilledIn n (after bit) back v → IsFilledIn (suc n) front back v
  longer bit small v is = record {
    piece = bit ∷ is.piece;
    count = ap suc is.count;
    bits = All-cons IsBit bit is.piece small is.bits;
    sum = is.sum ∙ append_assoc front (bit ∷ []) (is.piece ++ back);
    codeword = is.codeword;
  }

  neither : NoneFilledIn n (after 0) back → NoneFilledIn n (after 1) back → NoneFilledIn (suc n) front back
  neither none none' [] count bits = absurd (omega (arith, count))
  neither none none' (zero ∷ piece) count bits =
      rw (append_assoc front (0 ∷ []) (piece ++ back)) at (none piece (omega (arith, count)) (All-tail IsBit 0 piece bits))
  neither none none' (suc zero ∷ piece) count bits =
      rw (append_assoc front (1 ∷ []) (piece ++ back)) at (none' piece (omega (arith, count)) (All-tail IsBit 1 piece bits))
  neither none none' (suc (suc k) ∷ piece) count bits = absurd (omega (arith, All-head IsBit (suc (suc k)) piece bits))

  either : (a b : Option (List ℕ)) → MatchOption a (NoneFilledIn n (after 0) back) (IsFilledIn n (after 0) back) →
      MatchOption b (NoneFilledIn n (after 1) back) (IsFilledIn n (after 1) back) →
      MatchOption (first_of a b) (NoneFilledIn (suc n) front back) (IsFilledIn (suc n) front back)
  either None None none none' = neither none none'
  either None (Some v) none found = longer 1 (omega arith) v found
  either (Some v) b found found' = longer 0 (omega arith) v found

between : (n : ℕ) (front back : List ℕ) →
    MatchOption (codeword_between n front back) (NoneFilledIn n front back) (IsFilledIn n front back)
between zero front back = elim (cases_Bool (is_codeword (front ++ back))) [
  | inl is ↦ rw is (record { piece = []; count = refl; bits = All-nil IsBit; sum = refl; codeword = is })
  | inr other ↦ rw other (none other)
]
  where
    none : is_codeword (front ++ back) ≡ false → NoneFilledIn 0 front back
    none other [] count bits = other
    none other (bit ∷ piece) count bits = absurd (omega (arith, count))
between (suc n) front back =
    either n front back (codeword_between n (front ++ 0 ∷ []) back) (codeword_between n (front ++ 1 ∷ []) back)
    (between n (front ++ 0 ∷ []) back) (between n (front ++ 1 ∷ []) back)

-- ## Near: The search among all words that equal a word but in twelve bits.

abbrev IsNear : List ℕ → ℕ → List ℕ → Type 0
IsNear w start v = IsFilledIn 12 (take start w) (drop (start + 12) w) v

abbrev NoneNear : List ℕ → ℕ → Type 0
NoneNear w start = NoneFilledIn 12 (take start w) (drop (start + 12) w)

record IsFoundBefore (w : List ℕ) (end : ℕ) (v : List ℕ) : Type 0 where
  start : ℕ
  below : start < end
  near : IsNear w start v

abbrev NoneBefore : List ℕ → ℕ → Type 0
NoneBefore w end = (start : ℕ) → start < end → NoneNear w start

near : (w : List ℕ) (end : ℕ) → MatchOption (codeword_near w end) (NoneBefore w end) (IsFoundBefore w end)
unfolding codeword_near
near w zero = λ start below. absurd (omega (arith, below))
near w (suc end) = go (codeword_near w end) (codeword_between 12 (take end w) (drop (end + 12) w)) (near w end)
    (between 12 (take end w) (drop (end + 12) w))
  where
    go : (a b : Option (List ℕ)) → MatchOption a (NoneBefore w end) (IsFoundBefore w end) →
        MatchOption b (NoneNear w end) (IsNear w end) → MatchOption (first_of a b) (NoneBefore w (suc end)) (IsFoundBefore w (suc end))
    go None None none none' = λ start below. elim (cases_lt start end) [
      | inl before ↦ none start before
      | inr last ↦ let here : start ≡ end = omega (arith, below, last) in rw here none'
    ]
    go None (Some v) none found = record { start = end; below = omega arith; near = found }
    go (Some v) b found found' = record { start = found.start; below = omega (arith, found.below); near = found.near }

-- ## Differences: The first difference and the end of the differences are those of the span of changed bits.

first_is : (w v : List ℕ) (first : ℕ) → get_or w first 0 ≢ get_or v first 0 →
    ((k : ℕ) → get_or w k 0 ≢ get_or v k 0 → first ≤ k) → length w ≡ length v → first_difference w v ≡ first
first_is [] [] first differs none same = absurd (differs refl)
first_is [] (y ∷ v) first differs none same = absurd (omega (arith, same))
first_is (x ∷ w) [] first differs none same = absurd (omega (arith, same))
first_is (x ∷ w) (y ∷ v) zero differs none same = elim (cases_Bool (nat_eq x y)) [
  | inl is ↦ absurd (differs (grind (arith, is)))
  | inr other ↦ rw other refl
]
first_is (x ∷ w) (y ∷ v) (suc first) differs none same = elim (cases_Bool (nat_eq x y)) [
  | inl is ↦ rw is (ap suc (first_is w v first differs (λ k at. omega (arith, none (suc k) at)) (omega (arith, same))))
  | inr other ↦ absurd (omega (arith, none 0 (λ e. grind (arith, other, e))))
]

-- the differences end before `end`, and there is one just before it
record EndsAt (w v : List ℕ) (end : ℕ) : Type 0 where
  none : (k : ℕ) → get_or w k 0 ≢ get_or v k 0 → k < end
  last : (k : ℕ) → suc k ≡ end → get_or w k 0 ≢ get_or v k 0

end_is : (w v : List ℕ) (end : ℕ) → EndsAt w v end → length w ≡ length v → end_of_differences w v ≡ end
end_is [] [] zero at same = refl
end_is [] [] (suc end) at same = absurd (at.last end refl refl)
end_is [] (y ∷ v) end at same = absurd (omega (arith, same))
end_is (x ∷ w) [] end at same = absurd (omega (arith, same))
end_is (x ∷ w) (y ∷ v) zero at same =
    rw (end_is w v 0 (record {
      none = λ k differs. absurd (omega (arith, at.none (suc k) differs));
      last = λ k e. absurd (omega (arith, e));
    })
    (omega (arith, same)))
    (elim (cases_Bool (nat_eq x y)) [
      | inl is ↦ rw is refl
      | inr other ↦ absurd (omega (arith, at.none 0 (λ e. grind (arith, other, e))))
    ])
end_is (x ∷ w) (y ∷ v) (suc zero) at same =
    rw (end_is w v 0 (record { none = λ k differs. omega (arith, at.none (suc k) differs); last = λ k e. absurd (omega (arith, e)) })
    (omega (arith, same)))
    (elim (cases_Bool (nat_eq x y)) [
      | inl is ↦ absurd (at.last 0 refl (grind (arith, is)))
      | inr other ↦ rw other refl
    ])
end_is (x ∷ w) (y ∷ v) (suc (suc end)) at same =
    let some : nat_eq (suc end) 0 ≡ false = grind arith in
    rw (
      end_is w v (suc end) (record {
        none = λ k differs. omega (arith, at.none (suc k) differs);
        last = λ k e. at.last (suc k) (ap suc e);
      })
          (omega (arith, same)),
      some,
    ) refl

same_changes : (w v : List ℕ) (first span : ℕ) → length w ≡ length v → IsSpanOfChangedBits w v first span →
    repair_to w (Some v) ≡ Repaired v first span
same_changes w v first span same is =
    let from : first_difference w v ≡ first = first_is w v first is.first_differs (λ k differs. (is.none_outside k differs).0) same in
    let to : end_of_differences w v ≡ first + span = end_is w v (first + span) (record {
      none = λ k differs. (is.none_outside k differs).1;
      last = λ k e. is.last_differs k (omega (arith, e));
    }) same in
    let n : first + span - first ≡ span = omega arith in
    rw (from, to, n) refl

-- ## Results: The search finds the one correct result.

agrees : (w v : List ℕ) (start n : ℕ) → start + n ≤ length w → length v ≡ length w →
    ((k : ℕ) → get_or w k 0 ≢ get_or v k 0 → (start ≤ k) × (k < start + n)) →
    v ≡ take start w ++ (take n (drop start v) ++ drop (start + n) w)
agrees w v start n early long within = same_number_lists v _ (grind (arith, elements)) (λ k below. grind (arith, elements, within k))

inside : (w v : List ℕ) (n k : ℕ) → length w ≡ n → length v ≡ n → get_or w k 0 ≢ get_or v k 0 → k < n
inside w v n k count count' differs = elim (cases_lt k n) [
  | inl below ↦ below
  | inr past ↦ absurd (differs (get_or_past w k 0 (omega (arith, past, count)) ∙ sym (get_or_past v k 0 (omega (arith, past, count')))))
]

earlier : (start k : ℕ) → (start ≤ k) × (k < start + 12) → k < 224 → (min start 212 ≤ k) × (k < min start 212 + 12)
earlier start k within below = grind (arith, within, below)

module _ (w : List ℕ) (count : length w ≡ 224) (bits : AllBits w) where
  is_repair : (v : List ℕ) → is_codeword w ≡ false → IsFoundBefore w 213 v → IsRepair w v
  is_repair v other found =
      let p = found.near in
      let start = found.start in
      let long : length v ≡ 224 = ap length p.sum ∙ grind (arith, elements, count, found.below, p.count) in
      let ones : AllBits v = subst AllBits (sym p.sum) (All-append IsBit _ _ (All-take IsBit start w bits)
      (All-append IsBit _ _ p.bits (All-drop IsBit (start + 12) w bits))) in
      record {
        count = count;
        bits = bits;
        not_codeword = λ is. let yes' = is_codeword_if w count bits is in absurd (cc (yes', other));
        codeword = codeword_if v long ones p.codeword;
        start = start;
        changes_within_twelve_bits = λ k differs. grind (arith, elements, p.sum, p.count, found.below, count, differs);
      }

  no_repair : is_codeword w ≡ false → NoneBefore w 213 → (v : List ℕ) → IsRepair w v → ⊥
  no_repair other none v r =
      let start = min r.start 212 in
      let piece = take 12 (drop start v) in
      let sum = agrees w v start 12 (omega (arith, count)) (r.codeword.count ∙ sym count) (λ k differs.
      earlier r.start k (r.changes_within_twelve_bits k differs) (inside w v 224 k count r.codeword.count differs)) in
      let is = is_codeword_if v r.codeword.count r.codeword.bits r.codeword in
      let ones = All-take IsBit 12 (drop start v) (All-drop IsBit start v r.codeword.bits) in
      let not = none start (omega arith) piece (grind (arith, elements, r.codeword.count)) ones in
      absurd (cc (is, ap is_codeword sum, not))

  not_codeword : (IsXcchCodeword w → ⊥) → is_codeword w ≡ false
  not_codeword fails = elim (cases_Bool (is_codeword w)) [
    | inl is ↦ absurd (fails (codeword_if w count bits is))
    | inr other ↦ other
  ]

  repaired_is : (v : List ℕ) (first span : ℕ) → IsRepairResult w (Repaired v first span) → is_codeword w ≡ false →
      (found : Option (List ℕ)) → MatchOption found (NoneBefore w 213) (IsFoundBefore w 213) →
      repair_to w found ≡ Repaired v first span
  repaired_is v first span is other None none = absurd (no_repair other none v is.0)
  repaired_is v first span is other (Some found) searched =
      let same = one_repair w found v (is_repair found other searched) is.0 in
      rw same (same_changes w v first span (count ∙ sym is.0.codeword.count) is.1)

  none_is : IsRepairResult w NoRepair → is_codeword w ≡ false → (found : Option (List ℕ)) →
      MatchOption found (NoneBefore w 213) (IsFoundBefore w 213) → repair_to w found ≡ NoRepair
  none_is is other None none = refl
  none_is is other (Some found) searched = absurd (is.1 found (is_repair found other searched))

  result_is : (a : RepairAnswer) → IsRepairResult w a → repair_result w ≡ a
  result_is Holds is = rw (is_codeword_if w count bits is) refl
  result_is (Repaired v first span) is =
      let other = not_codeword is.0.not_codeword in
      rw other (repaired_is v first span is other (codeword_near w 213) (near w 213))
  result_is NoRepair is =
      let other = not_codeword is.0 in rw other (none_is is other (codeword_near w 213) (near w 213))

  pub IsRepairResult-repair_result : IsRepairResult w (repair_result w)
  IsRepairResult-repair_result =
      let a = some_answer w count bits in subst (IsRepairResult w) (sym (result_is a.0 a.1)) a.1
