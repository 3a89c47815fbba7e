-- Repairs: the search finds the burst with a given syndrome, and there is at most one.
use Rattle.{
  bit_blocks.proofs.Lemmas.{AllBits-back, AllBits-xor_bits, add_bits_again, add_bits_more, get_or-xor_bits, length-xor_bits},
  bit_blocks.proofs.Lemmas.xor_bits-zeros,
  fire_code.{
    proofs.Lemmas.{AllBits-low_bits, add_after, get_or-low_bits, length-low_bits, low_bits-mod, low_bits-xor, low_bits-zero, number_of},
    proofs.Lemmas.{one_xcch_crc, register_bits_split, same_register, some_xcch_crc},
    specs.{Registers.low_bits, Words.IsXcchCodeword, bit_blocks.Bits.{AllBits, IsBit, xor_bits}},
  },
  fire_repair.{
    specs.{Answers.IsRepairResult, Bursts.{error_bits, error_burst_syndrome, lfsr_steps}, Repairs.{IsRepair, IsSpanOfChangedBits}},
    specs.{Repairs.EachWordHasAtMostOneRepair, declared.repairs.RepairAnswer.{RepairAnswer, TheVariants.{Holds, NoRepair, Repaired}}},
    proofs.{
      Syndromes.{Burst, burst_at, pattern, syndrome_of, div_D, moved_once-div_D, div_D_within, same_moved, syndrome_within, same_burst},
      Syndromes.{AreCongruent, HasRemainder, AreCongruent-trans, syndrome_of_burst},
      BurstBits.{bit_before, bit_from, split, pattern_within, as_number, AreFirstAndLastBit, edges_of},
    },
  },
  std.{
    proofs.{
      Common.{List, ap, arith, bit_and, bit_xor, drop, get_or-set_other, get_or, inl, inr, length-append, length, min, refl, replicate},
      Common.{suc, sym, take, zero, ℕ, ◌%◌, ◌*◌, ◌++◌, ◌+◌, ◌-◌, ◌/◌, ◌<◌, ◌^◌, ◌∙◌, ◌≡◌},
      Common.{◌≢◌, ◌≤◌, length-set},
      Math.{ListN.set, Nat.lt_of_not-le},
      lemmas.{Bool.{cases_lt, cases_eq}, Grind.same_number_lists, List.{Elements.All-take, get_or_past, length-drop, length-take-le}},
      lemmas.{List.take-append-drop, Nat.{Bits.{bit_at_above, shr_and_one}, and_mask, shl-shr, xor_comm}},
    },
    specs.Int.{Bits.xor_assoc, bit_at},
  },
}

-- ## Words: Adding an error pattern to a word of 224 bits gives a codeword exactly if the pattern has the word's syndrome.

abbrev pub flipped : List ℕ → ℕ → List ℕ
flipped w n = xor_bits w (low_bits 224 n)

-- a word with its last 40 bits inverted, as a number
inverted : List ℕ → ℕ
inverted w = bit_xor (number_of w) (0xffffffffff * 2 ^ 184)

inverted_crc : low_bits 224 (0xffffffffff * 2 ^ 184) ≡ replicate 184 0 ++ replicate 40 1
unfolding low_bits
inverted_crc = refl

at_crc : (register : ℕ) → low_bits 224 (register * 2 ^ 184) ≡ replicate 184 0 ++ low_bits 40 register
at_crc register =
    let none : register * 2 ^ 184 % 2 ^ 184 ≡ 0 = omega arith in
    rw (register_bits_split 184 40 224 (register * 2 ^ 184) refl, ← low_bits-mod 184 (register * 2 ^ 184), none, low_bits-zero, shl-shr)

-- `v` is the sum of `w` and the error burst `burst`, and `burst` has the same syndrome as `w`
record IsTurned (w v : List ℕ) : Type 0 where
  burst : Burst
  sum : v ≡ flipped w (pattern burst)
  same : HasRemainder (inverted w) (syndrome_of burst)

-- `word` is w with the burst added to all bits before bit `start + count`; the later bits are unchanged
pub record IsFlipped (w word : List ℕ) (start shape count : ℕ) : Type 0 where
  pub right_length : length word ≡ 224
  pub before : (k : ℕ) → k < start + count → get_or word k 0 ≡ get_or (xor_bits w (error_bits start shape)) k 0
  pub after : (k : ℕ) → start + count ≤ k → get_or word k 0 ≡ get_or w k 0

-- ## BurstSearch: The search divides the syndrome by D until its 28 lowest bits are 0. Division by D is the inverse of multiplication, so
-- the search finds an error burst with this syndrome, or shows that there is none.

-- `register` is the syndrome divided by D^(213 - start), and no error burst that starts at bit `start` or later has this syndrome
pub record IsSearched (syndrome start register : ℕ) : Type 0 where
  pub start_fits : start ≤ 213
  pub within : register < 2 ^ 40
  pub syndrome_is : lfsr_steps (213 - start) register ≡ lfsr_steps 0 syndrome
  pub none : (place shape : ℕ) → start ≤ place → place ≤ 212 → shape < 2 ^ 12 → error_burst_syndrome place shape ≢ syndrome

pub searched_more : {syndrome start register : ℕ} (next : ℕ) → IsSearched syndrome start register → start ≡ suc next →
    (bit_and register 0xfffffff ≡ 0 → ⊥) → IsSearched syndrome next (div_D register)
unfolding lfsr_steps
searched_more {syndrome} {start} {register} next is at high =
    let count : 213 - next ≡ suc (213 - start) = let fits = is.start_fits in omega arith in
    record {
      start_fits = omega arith;
      within = div_D_within register is.within;
      syndrome_is = rw count (ap (lfsr_steps (213 - start)) (moved_once-div_D register is.within) ∙ is.syndrome_is);
      none = λ place shape from to small same.
          elim (cases_lt place start) [
            | inl lt ↦
                let here : 212 - place ≡ 213 - start = omega arith in
                high (and_mask register 28
                ∙ omega (
                  arith,
                  same_moved (213 - start) (shape * 2 ^ 28) register (omega arith) is.within ((rw here at same) ∙ sym is.syndrome_is),
                ))
            | inr ge ↦ is.none place shape ge to small same
          ];
    }

pub searched_here : {syndrome start register : ℕ} (next : ℕ) → IsSearched syndrome start register → start ≡ suc next →
    bit_and register 0xfffffff ≡ 0 →
    (next ≤ 212) × (register / 2 ^ 28 < 2 ^ 12) × (error_burst_syndrome next (register / 2 ^ 28) ≡ syndrome)
unfolding lfsr_steps
searched_here {syndrome} {start} {register} next is at low =
    let count : 212 - next ≡ 213 - start = omega arith in
    let whole : register / 2 ^ 28 * 2 ^ 28 ≡ register = omega (arith, and_mask register 28) in
    (omega arith, omega arith, rw (count, whole) is.syndrome_is)

-- w is not a codeword, and `syndrome` is its syndrome: adding it to the check bits gives a codeword
pub record HasSyndrome (w : List ℕ) (syndrome : ℕ) : Type 0 where
  pub within : syndrome < 2 ^ 40
  pub not_codeword : IsXcchCodeword w → ⊥
  pub word : IsXcchCodeword (xor_bits w (replicate 184 0 ++ low_bits 40 syndrome))

module _ (w : List ℕ) (ew : length w ≡ 224) (bw : AllBits w) where
  unchanged : flipped w 0 ≡ w
  unchanged = ap (xor_bits w) (low_bits-zero 224) ∙ xor_bits-zeros w 224 bw ew

  counts : (n : ℕ) → length w ≡ length (low_bits 224 n)
  counts n = ew ∙ sym (length-low_bits 224 n)

  length-flipped : (n : ℕ) → length (flipped w n) ≡ 224
  length-flipped n = length-xor_bits w (low_bits 224 n) (counts n) ∙ ew

  multiple_is : (n : ℕ) → low_bits 224 (bit_xor (inverted w) n) ≡ xor_bits (flipped w n) (replicate 184 0 ++ replicate 40 1)
  unfolding inverted
  multiple_is n =
      let x = number_of w in
      let o = 0xffffffffff * 2 ^ 184 in
      let order : bit_xor (bit_xor x o) n ≡ bit_xor (bit_xor x n) o = cc (xor_assoc x o n, xor_assoc x n o, xor_comm o n) in
      rw (order, low_bits-xor 224 (bit_xor x n) o, low_bits-xor 224 x n, (as_number 224 w ew bw).0, inverted_crc)

  congruent_of : (n : ℕ) → IsXcchCodeword (flipped w n) → AreCongruent (inverted w) n
  congruent_of n word = rw (multiple_is n) word.multiple.quotient

  word_of : (n : ℕ) → AreCongruent (inverted w) n → IsXcchCodeword (flipped w n)
  word_of n same = record {
    count = length-flipped n;
    bits = AllBits-xor_bits w (low_bits 224 n);
    multiple = rw (← multiple_is n) (record {
      leading_one = refl;
      fits = omega (arith, length-low_bits);
      quotient = same;
    });
  }

  parts_of : (register : ℕ) → flipped w (register * 2 ^ 184) ≡ take 184 w ++ xor_bits (drop 184 w) (low_bits 40 register)
  parts_of register =
      let added = add_after 184 (take 184 w) (drop 184 w) (low_bits 40 register) (length-take-le 184 w (omega arith)) in
      rw (at_crc, ← added (All-take IsBit 184 w bw), take-append-drop)

  same_syndrome : (a b : ℕ) → a < 2 ^ 40 → b < 2 ^ 40 → HasRemainder (inverted w) a →
      HasRemainder (inverted w) b → a ≡ b
  same_syndrome a b within within' same same' =
      let p = drop 184 w in
      let sums =
      one_xcch_crc (take 184 w) (xor_bits p (low_bits 40 a)) (xor_bits p (low_bits 40 b)) (length-take-le 184 w (omega arith))
      (rw (parts_of a) at (word_of (a * 2 ^ 184) same)) (rw (parts_of b) at (word_of (b * 2 ^ 184) same')) in
      let again : (c : ℕ) → xor_bits p (xor_bits p (low_bits 40 c)) ≡ low_bits 40 c = λ c.
      add_bits_again p (low_bits 40 c) (AllBits-low_bits 40 c) (length-low_bits 40 c ∙ omega (arith, length-drop 184 w)) in
      same_register 40 a b within within' (sym (again a) ∙ ap (xor_bits p) sums ∙ again b)

  some_syndrome : (register : ℕ) × (register < 2 ^ 40) × HasRemainder (inverted w) register
  some_syndrome =
      let d = take 184 w in
      let p = drop 184 w in
      let ed = length-take-le 184 w (omega arith) in
      let ep : length p ≡ 40 = length-drop 184 w ∙ omega arith in
      let found = some_xcch_crc d ed (All-take IsBit 184 w bw) in
      let crc = found.0 in
      let long : length crc ≡ 40 = omega (arith, found.1.count, length-append d crc) in
      let sum = as_number 40 (xor_bits p crc) (length-xor_bits p crc (ep ∙ sym long) ∙ ep) (AllBits-xor_bits p crc) in
      let register = number_of (xor_bits p crc) in
      let word = parts_of register ∙ ap (λ x. d ++ x) (ap (xor_bits p) sum.0
      ∙ add_bits_again p crc (AllBits-back d crc found.1.bits) (long ∙ sym ep)) in
      (register, sum.1, congruent_of (register * 2 ^ 184) (rw word found.1))

  -- ## Nearness: If two words differ only within twelve consecutive bits, one is the other plus an error burst.

  bit_of : (n k : ℕ) → n < 2 ^ 224 →
      (get_or w k 0 ≤ 1) × (get_or (flipped w n) k 0 ≡ (get_or w k 0 + bit_at n k) % 2)
  bit_of n k small =
      let added = get_or-xor_bits w (low_bits 224 n) k (counts n) in
      let past = get_or_past (flipped w n) k 0 in
      grind (arith, bw k 0, added, get_or-low_bits 224 n k, get_or_past w k 0, past, length-flipped n, bit_at_above n 224 k small)

  turned : (v : List ℕ) → IsRepair w v → IsTurned w v
  turned v r =
      let e = xor_bits w v in
      let n = number_of e in
      let number =
      as_number 224 e (length-xor_bits w v (ew ∙ sym r.codeword.count) ∙ ew) (AllBits-xor_bits w v) in
      let sum : flipped w n ≡ v =
      ap (xor_bits w) number.0 ∙ add_bits_again w v r.codeword.bits (r.codeword.count ∙ sym ew) in
      let start = min r.start 212 in
      let parts = split n start (λ k outside.
      grind (arith, bit_of n k number.1, bit_at_above n 224 k number.1, r.changes_within_twelve_bits k, sum, outside)) in
      let b : Burst = record { start = start; shape = n / 2 ^ start; start_fits = omega arith; short_shape = parts.1 } in
      record {
        burst = b;
        sum = sym (ap (flipped w) parts.0 ∙ sum);
        same = AreCongruent-trans (inverted w) n (syndrome_of b * 2 ^ 184)
            (congruent_of n (rw sum r.codeword)) (rw parts.0 at (syndrome_of_burst b));
      }

  bit_of_burst : (b : Burst) (k i : ℕ) → k ≡ b.start + i →
      (get_or w k 0 ≤ 1) × (get_or (flipped w (pattern b)) k 0 ≡ (get_or w k 0 + bit_at b.shape i) % 2)
  bit_of_burst b k i at = rw (← bit_from b.shape b.start k i at) (bit_of (pattern b) k (pattern_within b))

  differs_near : (b : Burst) (k : ℕ) → get_or w k 0 ≢ get_or (flipped w (pattern b)) k 0 → (b.start ≤ k) × (k < b.start + 12)
  differs_near b k differs =
      let i = k - b.start in
      let at = bit_of (pattern b) k (pattern_within b) in
      grind (arith, at, bit_before b.shape b.start k, bit_from b.shape b.start k i, bit_at_above b.shape 12 i b.short_shape)

  -- ## Flipping: The loop that inverts the bits of an error burst adds the error burst to the word.

  pub flipped_none : (b : Burst) → IsFlipped w w b.start b.shape 0
  flipped_none b = record { right_length = ew; before = λ k lt. grind (arith, differs_near b k); after = λ k _. refl }

  pub flipped_more : (b : Burst) (word : List ℕ) (i : ℕ) → i < 12 → IsFlipped w word b.start b.shape i →
      IsFlipped w (set word (b.start + i) (bit_xor (get_or w (b.start + i) 0) (bit_and (b.shape / 2 ^ i) 1))) b.start b.shape (i + 1)
  flipped_more b word i lt is =
      let place = b.start + i in
      let room = b.start_fits in
      let added : bit_and (b.shape / 2 ^ i) 1 ≡ get_or (error_bits b.start b.shape) place 0 =
      shr_and_one b.shape i
      ∙ sym (get_or-low_bits 224 (pattern b) place (omega arith) ∙ bit_from b.shape b.start place i refl) in
      rw added (record {
        right_length = length-set word place _ ∙ is.right_length;
        before = λ k upto. add_bits_more word w (error_bits b.start b.shape) place (is.right_length ∙ sym ew) (counts (pattern b))
            (omega arith) bw (AllBits-low_bits 224 (pattern b)) is.before k (omega arith);
        after = λ k past. get_or-set_other word place k _ 0 (omega arith) ∙ is.after k (omega arith);
      })

  pub flipped_all : (b : Burst) (word : List ℕ) (count : ℕ) → 12 ≤ count → IsFlipped w word b.start b.shape count →
      word ≡ flipped w (pattern b)
  flipped_all b word count all is =
      same_number_lists word (flipped w (pattern b)) (is.right_length ∙ sym (length-flipped (pattern b)))
      (λ k _. grind (arith, is.before k, is.after k, differs_near b k))

  -- ## Repairing: Adding an error burst with the same syndrome as the word gives a codeword. Different error bursts have different
  -- syndromes, so there is at most one such codeword, and the result of a repair is unique.

  module _ (syndrome : ℕ) (has : HasSyndrome w syndrome) where
    same : HasRemainder (inverted w) syndrome
    same = congruent_of (syndrome * 2 ^ 184) (rw at_crc has.word)

    word_of_burst : (b : Burst) → syndrome_of b ≡ syndrome → IsXcchCodeword (flipped w (pattern b))
    word_of_burst b is =
        word_of (pattern b) (AreCongruent-trans (inverted w) (syndrome * 2 ^ 184) (pattern b) same
        (rw (is, xor_comm) at (syndrome_of_burst b)))

    pub some_shape : (b : Burst) → syndrome_of b ≡ syndrome → 0 < b.shape
    some_shape b is =
        lt_of_not-le {n = b.shape} {m = 0} (λ none.
        let zero : b.shape ≡ 0 = omega arith in
        let zeros : 0 * 2 ^ b.start ≡ 0 = omega arith in
        has.not_codeword (rw (zero, zeros, unchanged) at (word_of_burst b is)))

    pub repaired : (b : Burst) (first last : ℕ) → syndrome_of b ≡ syndrome → AreFirstAndLastBit b.shape first last →
        IsRepairResult w (Repaired (flipped w (pattern b)) (b.start + first) (last - first + 1))
    repaired b first last is edges = (
      record {
        count = ew;
        bits = bw;
        not_codeword = has.not_codeword;
        codeword = word_of_burst b is;
        start = b.start;
        changes_within_twelve_bits = differs_near b;
      },
      record {
        nonzero = omega arith;
        first_differs = λ same. omega (arith, bit_of_burst b (b.start + first) first refl, edges.first_bit);
        last_differs = λ k at same. omega (arith, bit_of_burst b k last (omega arith), edges.last_bit);
        none_outside = λ k differs.
            let i = k - b.start in
            grind (arith, differs_near b k, edges.none_outside i, bit_of_burst b k i);
      },
    )

    pub no_answer : ((start shape : ℕ) → start ≤ 212 → shape < 2 ^ 12 → error_burst_syndrome start shape ≢ syndrome) →
        IsRepairResult w NoRepair
    no_answer none = (
      has.not_codeword,
      λ v r.
          let t = turned v r in
          let b = t.burst in
          none b.start b.shape b.start_fits b.short_shape
          (same_syndrome (syndrome_of b) syndrome (syndrome_within b) has.within t.same same),
    )

    some_answer_from : (start register : ℕ) → IsSearched syndrome start register → (a : RepairAnswer) × IsRepairResult w a
    some_answer_from zero register is = (NoRepair, no_answer (λ place shape. is.none place shape (omega arith)))
    some_answer_from (suc k) register is =
        elim (cases_eq (bit_and register 0xfffffff) 0) [
          | inl low ↦
              let found = searched_here k is refl low in
              let b = burst_at (record { start = k; shape = register / 2 ^ 28 }) found.0 found.1 in
              (Repaired (flipped w (pattern b)) _ _, repaired b _ _ found.2 (edges_of b.shape (some_shape b found.2) found.1))
          | inr high ↦ some_answer_from k (div_D register) (searched_more k is refl high)
        ]

  pub some_answer : (a : RepairAnswer) × IsRepairResult w a
  some_answer =
      let s = some_syndrome in
      elim (cases_eq s.0 0) [
        | inl none ↦ (Holds, rw unchanged at (word_of 0 (rw none at s.2)))
        | inr nonzero ↦
            some_answer_from s.0 (record {
              within = s.1;
              not_codeword = λ holds. nonzero (same_syndrome s.0 0 s.1 (omega arith) s.2 (congruent_of 0 (rw unchanged holds)));
              word = rw at_crc at (word_of (s.0 * 2 ^ 184) s.2);
            }) 213 s.0 (omega arith)
      ]

pub one_repair : EachWordHasAtMostOneRepair
one_repair w v v' r r' =
    let t = turned w r.count r.bits v r in
    let t' = turned w r.count r.bits v' r' in
    let b = t.burst in
    let b' = t'.burst in
    let same =
    same_syndrome w r.count r.bits (syndrome_of b) (syndrome_of b') (syndrome_within b) (syndrome_within b') t.same t'.same in
    t.sum ∙ ap (flipped w) (same_burst b b' same) ∙ sym t'.sum

same_span : (w v : List ℕ) (first first' span span' : ℕ) → IsSpanOfChangedBits w v first span →
    IsSpanOfChangedBits w v first' span' → (first ≡ first') × (span ≡ span')
same_span w v first first' span span' s s' =
    let last = first + span - 1 in
    let last' = first' + span' - 1 in
    omega (
      arith,
      s'.none_outside first s.first_differs,
      s.none_outside first' s'.first_differs,
      s'.none_outside last (s.last_differs last (omega arith)),
      s.none_outside last' (s'.last_differs last' (omega arith)),
    )

pub one_answer : (w : List ℕ) (a b : RepairAnswer) → IsRepairResult w a → IsRepairResult w b → a ≡ b
one_answer w Holds Holds x y = refl
one_answer w NoRepair NoRepair x y = refl
one_answer w (Repaired v first span) (Repaired v' first' span') x y =
    let same = one_repair w v v' x.0 y.0 in
    let spans = same_span w v' first first' span span' (rw same at x.1) y.1 in
    rw (same, spans.0, spans.1) refl
one_answer w Holds (Repaired _ _ _) x y = absurd (y.0.not_codeword x)
one_answer w (Repaired _ _ _) Holds x y = absurd (x.0.not_codeword y)
one_answer w Holds NoRepair x y = absurd (y.0 x)
one_answer w NoRepair Holds x y = absurd (x.0 y)
one_answer w (Repaired v _ _) NoRepair x y = absurd (y.1 v x.0)
one_answer w NoRepair (Repaired v _ _) x y = absurd (x.1 v y.0)
