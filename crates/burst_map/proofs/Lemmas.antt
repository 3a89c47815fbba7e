-- Lemmas about the parts of a burst: its slices, a burst filled from the front, and a normal burst whose halves are written.
use Rattle.{
  burst_map.specs.{NormalBurst.normal_burst, Parts.with_range_replaced, Tails.tail_bits},
  std.proofs.Common.{List, [], ap, arith, drop, length, refl, replicate, sym, take, ℕ, ◌++◌, ◌+◌, ◌-◌, ◌∙◌, ◌∷◌},
  std.proofs.{Common.{◌≡◌, ◌≤◌}, Math.Seq.take-add, lemmas.List.{Elements.{All-append, All-replicate}, append_assoc}},
  std.{proofs.lemmas.List.{drop-drop, drop-replicate, drop_at, length-append, take_at}, specs.Prelude.slice_range},
  training_seq.{proofs.Lemmas.length-midamble, specs.{Sequences.midamble, bit_blocks.Bits.{AllBits, IsBit}}},
}

-- ## Parts: A list is the concatenation of its slices.

pub take-slice_range : {X : Type 0} → (xs : List X) (i j : ℕ) → i ≤ j → take i xs ++ slice_range xs i j ≡ take j xs
take-slice_range xs i j h =
    let e : i + (j - i) ≡ j = omega arith in
    sym (take-add i (j - i) xs) ∙ ap (λ n. take n xs) e

-- ## Filling: A burst of zeros is filled from the front to the end.

pub record IsFilled (burst front : List ℕ) (at rest : ℕ) : Type 0 where
  pub content : burst ≡ front ++ replicate rest 0
  pub right_length : length front ≡ at
  pub bits : AllBits front

pub filled_more : {old front : List ℕ} {at rest : ℕ} (new bits : List ℕ) (next left : ℕ) → IsFilled old front at rest →
    AllBits bits → next ≡ at + length bits → rest ≡ length bits + left →
    new ≡ take at old ++ bits ++ drop (at + length bits) old →
    IsFilled new (front ++ bits) next left
filled_more {old} {front} {at} {rest} new bits next left filled are_bits follows fits written =
    let zeros : List ℕ = replicate rest 0 in
    let before : take at old ≡ front = ap (take at) filled.content ∙ take_at front zeros at filled.right_length in
    let less : rest - length bits ≡ left = omega arith in
    let after : drop (at + length bits) old ≡ replicate left 0 =
    sym (drop-drop (length bits) at old)
    ∙ ap (drop (length bits)) (ap (drop at) filled.content ∙ drop_at front zeros at filled.right_length)
    ∙ drop-replicate (length bits) rest 0
    ∙ ap (λ n. replicate n 0) less in
    record {
      content = cc;
      right_length = omega (arith, filled.right_length, length-append front bits);
      bits = All-append IsBit front bits filled.bits are_bits;
    }

pub AllBits-filled : {burst front : List ℕ} {at rest : ℕ} → IsFilled burst front at rest → AllBits burst
AllBits-filled {front} {rest} filled = rw filled.content
    (All-append IsBit front (replicate rest 0) filled.bits (All-replicate IsBit rest 0 (omega arith)))

-- ## WrittenHalves: Writing both halves of a normal burst, in either order, gives the burst of these halves.

with_range_replaced-middle : (places front old back part : List ℕ) (from to : ℕ) → places ≡ front ++ (old ++ back) →
    length front ≡ from → length (front ++ old) ≡ to → with_range_replaced places from to part ≡ front ++ (part ++ back)
with_range_replaced-middle places front old back part from to is f t =
    let before : take from places ≡ front = ap (take from) is ∙ take_at front (old ++ back) from f in
    let after : drop to places ≡ back =
    ap (drop to) (is ∙ sym (append_assoc front old back)) ∙ drop_at (front ++ old) back to t in
    cc

-- the bits of a normal burst after its first half (`after_first`) and before its second half (`before_second`)
abbrev after_first : List ℕ → ℕ → List ℕ
after_first second tsc = 1 ∷ [] ++ midamble tsc ++ 1 ∷ [] ++ second ++ tail_bits

abbrev before_second : List ℕ → ℕ → List ℕ
before_second first tsc = tail_bits ++ first ++ 1 ∷ [] ++ midamble tsc ++ 1 ∷ []

around_first : (first second : List ℕ) (tsc : ℕ) → normal_burst first second tsc ≡ tail_bits ++ (first ++ after_first second tsc)
around_first first second tsc = simp append_assoc

around_second : (first second : List ℕ) (tsc : ℕ) → normal_burst first second tsc ≡ before_second first tsc ++ (second ++ tail_bits)
around_second first second tsc = simp append_assoc

length-before_second : (first : List ℕ) (tsc : ℕ) → length first ≡ 57 → tsc ≤ 7 → length (before_second first tsc) ≡ 88
length-before_second first tsc f known =
    simp length-append (omega (arith, length-midamble tsc known))

write_first : (old first second : List ℕ) (tsc : ℕ) → length old ≡ 57 →
    with_range_replaced (normal_burst old second tsc) 3 60 first ≡ normal_burst first second tsc
write_first old first second tsc o =
    with_range_replaced-middle (normal_burst old second tsc) tail_bits old (after_first second tsc) first 3 60
    (around_first old second tsc) refl
    (omega (arith, length-append tail_bits old))
    ∙ sym (around_first first second tsc)

write_second : (first old second : List ℕ) (tsc : ℕ) → length first ≡ 57 → length old ≡ 57 → tsc ≤ 7 →
    with_range_replaced (normal_burst first old tsc) 88 145 second ≡ normal_burst first second tsc
write_second first old second tsc f o known =
    let long = length-before_second first tsc f known in
    with_range_replaced-middle (normal_burst first old tsc) (before_second first tsc) old tail_bits second 88 145
    (around_second first old tsc) long
    (omega (arith, length-append (before_second first tsc) old))
    ∙ sym (around_second first second tsc)

pub write_first-second : (first second : List ℕ) (tsc : ℕ) → length first ≡ 57 → length second ≡ 57 → tsc ≤ 7 →
    with_range_replaced (with_range_replaced (normal_burst (replicate 57 0) (replicate 57 0) tsc) 3 60 first) 88 145 second
    ≡ normal_burst first second tsc
write_first-second first second tsc f s known =
    let zeros : List ℕ = replicate 57 0 in
    ap (λ burst. with_range_replaced burst 88 145 second) (write_first zeros first zeros tsc refl)
    ∙ write_second first zeros second tsc f refl known

pub write_second-first : (first second : List ℕ) (tsc : ℕ) → length first ≡ 57 → length second ≡ 57 → tsc ≤ 7 →
    with_range_replaced (with_range_replaced (normal_burst (replicate 57 0) (replicate 57 0) tsc) 88 145 second) 3 60 first
    ≡ normal_burst first second tsc
write_second-first first second tsc f s known =
    let zeros : List ℕ = replicate 57 0 in
    ap (λ burst. with_range_replaced burst 3 60 first) (write_second zeros zeros second tsc refl refl known)
    ∙ write_first zeros first second tsc refl

pub both_written : (left burst half other first second : List ℕ) (tsc : ℕ) → length first ≡ 57 → length second ≡ 57 →
    tsc ≤ 7 → burst ≡ normal_burst (replicate 57 0) (replicate 57 0) tsc → half ≡ first → other ≡ second →
    left ≡ with_range_replaced (with_range_replaced burst 3 60 half) 88 145 other → left ≡ normal_burst first second tsc
both_written left burst half other first second tsc f s known zeros h o is =
    rw (is, zeros, h, o) (write_first-second first second tsc f s known)
