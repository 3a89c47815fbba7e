-- The CRCs: long division by a shift register and by a table, and the three kinds of codewords.
use Rattle.{
  bit_blocks.{
    proofs.Lemmas.{AllBits-append, AllBits-back, AllBits-front, AllBits-table, AllBits-xor_bits, IsDivisibleBy-zeros_append},
    proofs.Lemmas.{IsDivisibleBy-zeros, HasQuotient_self, add_bits_again, add_bits_twice, divided_more, length-xor_bits, same_remainder},
    proofs.Lemmas.{xor_bits-append, xor_bits-zeros},
    specs.{Bits.{AllBits, IsBit, xor_bits}, Octets.octet_bits, Polynomials.{IsDivisibleBy, IsMultiple, product_coefficient}},
  },
  fire_code.specs.{
    Crcs.{check_bits, rach_crc as crc_of_rach, sch_crc, shifted, xcch_crc},
    Registers.low_bits,
    Words.{IsRachCodeword, IsSchCodeword, IsXcchCodeword, fire_generator},
    declared.octets.TheConstants.OCTET_REMAINDERS,
  },
  std.{
    proofs.{
      Common.{Bool, List, [], add-one, append-nil, append_assoc, ap, ap₂, arith, bit_and, bit_or, bit_xor, drop, eqb, fold, get_or},
      Common.{length-append, length, lit<, lit≤, one-add, one-mul, pow-add, pow-suc, pow_pos, refl, replicate, shr-shr, suc, sym, take},
      Common.{take-add, take-append-drop, true, w64, zero, zero-mul, ℕ, ◌%◌, ◌*◌, ◌++◌, ◌+◌, ◌/◌, ◌<◌, ◌^◌},
      Common.{◌∙◌, ◌∷◌, ◌≡◌, ◌≤◌, ◌↔◌},
      Math.{Nat.{div-div-eq-div-mul, div-eq_of_lt}, Pow.mod-mod-pow},
      lemmas.{Bool.eqb-true, List.{Elements.{All-cons, All-drop, All-head, All-nil, All-push, All-tail, All-take}, length-replicate}},
      lemmas.Nat.{Bits.{bit_at-suc, bit_at_lowest, bit_at_xor, same_from_bits_below}, and_le_r, and_mask, field_of, mod_low, mul-add-lt},
      lemmas.Nat.{mul-le, shl_whole, shr_below, shr_high, xor_comm, xor_lt, xor_shr},
    },
    specs.Int.{Bits.{or_shifted_r, xor_assoc, xor_self, xor_zero_l, xor_zero_r}, bit_at, bit_not},
  },
}
-- `tested` computes whether all numbers below a bound pass a test; if so, each of them passes it (`passed`)
unfoldable pub use Rattle.bit_blocks.proofs.Lemmas.{passes_below as tested}
pub use Rattle.bit_blocks.proofs.Lemmas.{at_passes_below as passed}

-- ## RegisterBits: The bits of a register after an XOR, a shift or an inversion. Registers with equal bits are equal.

pub length-low_bits : (n number : ℕ) → length (low_bits n number) ≡ n
unfolding low_bits
length-low_bits zero number = refl
length-low_bits (suc n) number = ap suc (length-low_bits n (number / 2))

pub low_bits-suc : (n number : ℕ) → low_bits (suc n) number ≡ number % 2 ∷ low_bits n (number / 2)
unfolding low_bits
low_bits-suc n number = refl

pub AllBits-low_bits : (n number : ℕ) → AllBits (low_bits n number)
unfolding low_bits
AllBits-low_bits zero number = All-nil IsBit
AllBits-low_bits (suc n) number = All-cons IsBit (number % 2) _ (omega arith) (AllBits-low_bits n (number / 2))

pub get_or-low_bits : (n number i : ℕ) → i < n → get_or (low_bits n number) i 0 ≡ bit_at number i
unfolding low_bits
get_or-low_bits zero number i within = absurd (omega arith)
get_or-low_bits (suc n) number zero within = sym (bit_at_lowest number)
get_or-low_bits (suc n) number (suc i) within = get_or-low_bits n (number / 2) i (omega arith) ∙ sym (bit_at-suc number i)

pub lowest_of_xor : (a b : ℕ) → bit_xor a b % 2 ≡ (a % 2 + b % 2) % 2
lowest_of_xor a b = omega (arith, bit_at_xor a b 0)

pub low_bits-xor : (n a b : ℕ) → low_bits n (bit_xor a b) ≡ xor_bits (low_bits n a) (low_bits n b)
unfolding low_bits
low_bits-xor zero a b = refl
low_bits-xor (suc n) a b = cc (lowest_of_xor a b, xor_shr a b 1, low_bits-xor n (a / 2) (b / 2))

pub low_bits-zero : (n : ℕ) → low_bits n 0 ≡ replicate n 0
unfolding low_bits
low_bits-zero zero = refl
low_bits-zero (suc n) = cc (low_bits-zero n)

pub register_bits_split : (k n m number : ℕ) → m ≡ k + n →
    low_bits m number ≡ low_bits k number ++ low_bits n (number / 2 ^ k)
unfolding low_bits
register_bits_split zero n m number count = ap₂ low_bits (omega arith) (omega arith)
register_bits_split (suc k) n zero number count = absurd (omega arith)
register_bits_split (suc k) n (suc m) number count =
    cc (register_bits_split k n m (number / 2) (omega arith), shr-shr number 1 k, one-add k)

register_bits_beyond : (n k m number : ℕ) → m ≡ n + k → number < 2 ^ n →
    low_bits m number ≡ low_bits n number ++ replicate k 0
register_bits_beyond n k m number count within =
    cc (register_bits_split n k m number count, div-eq_of_lt within, low_bits-zero k)

pub low_bits-mod : (n number : ℕ) → low_bits n (number % 2 ^ n) ≡ low_bits n number
unfolding low_bits
low_bits-mod zero number = refl
low_bits-mod (suc n) number = cc (add-one n, mod-mod-pow number n 1, field_of number n 1, low_bits-mod n (number / 2))

pub same_register : (n a b : ℕ) → a < 2 ^ n → b < 2 ^ n → low_bits n a ≡ low_bits n b → a ≡ b
same_register n a b within within' same =
    same_from_bits_below n a b within within' (λ i lt. cc (get_or-low_bits n a i lt, same, get_or-low_bits n b i lt))

inverted_bits : (n m inverted number : ℕ) → n ≤ m → inverted + number + 1 ≡ 2 ^ m →
    xor_bits (low_bits n inverted) (replicate n 1) ≡ low_bits n number
unfolding low_bits
inverted_bits zero m inverted number small sum = refl
inverted_bits (suc n) zero inverted number small sum = absurd (omega arith)
inverted_bits (suc n) (suc m) inverted number small sum =
    ap₂ (λ bit bits. bit ∷ bits) (omega arith) (inverted_bits n m (inverted / 2) (number / 2) (omega arith) (omega arith))

pub inverted_register : (n number : ℕ) → n ≤ 64 → number < 2 ^ 64 →
    xor_bits (low_bits n (bit_not w64 number)) (replicate n 1) ≡ low_bits n number
inverted_register n number small within = inverted_bits n 64 (bit_not w64 number) number small (omega arith)

-- the number with these bits, the lowest bit first
unfoldable pub number_of : List ℕ → ℕ
number_of [] = 0
number_of (bit ∷ bits) = bit + 2 * number_of bits

pub low_bits-number_of : (bits : List ℕ) → AllBits bits → low_bits (length bits) (number_of bits) ≡ bits
unfolding low_bits number_of
low_bits-number_of [] all = refl
low_bits-number_of (bit ∷ bits) all =
    let head = All-head IsBit bit bits all in
    let rest : (bit + 2 * number_of bits) / 2 ≡ number_of bits = omega arith in
    ap₂ (λ b bs. b ∷ bs) (omega arith) (rw rest (low_bits-number_of bits (All-tail IsBit bit bits all)))

pub number_of_within : (bits : List ℕ) → AllBits bits → number_of bits < 2 ^ length bits
unfolding number_of
number_of_within [] all = omega arith
number_of_within (bit ∷ bits) all =
    rw (pow-suc 2 (length bits))
    (omega (arith, All-head IsBit bit bits all, number_of_within bits (All-tail IsBit bit bits all)))

-- ## OctetBits: The bits of an octet are its eight lowest bits, and the bits of a register are the bits of its octets, in order.

pub octet_bits-low_bits : (octet : ℕ) → octet_bits octet ≡ low_bits 8 octet
unfolding low_bits
octet_bits-low_bits octet = simp div-div-eq-div-mul

pub put_together : (bits : List ℕ) (m n register octet : ℕ) → m < 5 → n ≡ 8 → octet < 256 → register < 2 ^ (8 * m) →
    low_bits 8 octet ≡ take n (drop (8 * m) bits) → low_bits (8 * m) register ≡ take (8 * m) bits →
    let next = bit_or register (octet * 2 ^ (8 * m) % 2 ^ 64) in
    (low_bits (8 * (m + 1)) next ≡ take (8 * (m + 1)) bits) × (next < 2 ^ (8 * (m + 1)))
put_together bits m n register octet within eight small low is before =
    let k = 8 * m in
    let width : 8 * (m + 1) ≡ k + 8 = omega arith in
    let next = octet * 2 ^ k + register in
    rw (shl_whole octet 8 k 64 small (omega arith), or_shifted_r octet k register low, width) (
      cc (
        register_bits_split k 8 (k + 8) next refl,
        shr_high octet k register low,
        low_bits-mod k next,
        mod_low octet k register low,
        take-add k 8 bits,
      ),
      rw (pow-add 2 k 8) (mul-add-lt _ _ _ _ small low),
    )

-- ---- the octets of a register

pub lowest_octet : (number : ℕ) → low_bits 8 (bit_and number 255) ≡ low_bits 8 number
lowest_octet number = cc (and_mask number 8, low_bits-mod 8 number)

pub octet_before : (register k n octet : ℕ) (rest : List ℕ) → octet_bits octet ≡ low_bits 8 (register / 2 ^ k) →
    rest ≡ low_bits n (register / 2 ^ (k + 8)) → octet_bits octet ++ rest ≡ low_bits (8 + n) (register / 2 ^ k)
octet_before register k n octet rest first is =
    ap (λ front. front ++ rest) first ∙ cc (register_bits_split 8 n (8 + n) (register / 2 ^ k) refl, shr-shr register k 8)

-- ## Steps: One step of the linear feedback shift register is one step of long division.

carry_multiple : (n carry taps : ℕ) → carry ≤ 1 → IsDivisibleBy (carry ∷ low_bits n (carry * taps)) (1 ∷ low_bits n taps)
carry_multiple n zero taps h =
    rw (zero-mul, low_bits-zero) (IsDivisibleBy-zeros (suc n) _ (omega (arith, length-low_bits n taps)))
carry_multiple n (suc zero) taps h =
    rw one-mul (HasQuotient_self _ (All-cons IsBit 1 (low_bits n taps) (omega arith) (AllBits-low_bits n taps)))
carry_multiple n (suc (suc carry)) taps h = absurd (omega arith)

pub carry_is : (register bit : ℕ) → bit ≤ 1 → bit_and (bit_xor register bit) 1 ≡ (register % 2 + bit) % 2
carry_is register bit h = and_mask (bit_xor register bit) 1 ∙ omega (arith, lowest_of_xor register bit)

pub remainder_more : (n : ℕ) (front : List ℕ) (register bit taps : ℕ) → 0 < n → AllBits front → register < 2 ^ n →
    bit ≤ 1 → IsDivisibleBy (front ++ low_bits n register) (1 ∷ low_bits n taps) →
    IsDivisibleBy ((front ++ bit ∷ []) ++ low_bits n (bit_xor (register / 2) (bit_and (bit_xor register bit) 1 * taps)))
    (1 ∷ low_bits n taps)
remainder_more zero front register bit taps positive bits within is_bit before = absurd (omega arith)
remainder_more (suc n) front register bit taps positive bits within is_bit before =
    let carry = bit_and (bit_xor register bit) 1 in
    let half = register / 2 in
    let cancelled : (register % 2 + carry) % 2 ≡ bit = omega (arith, carry_is register bit is_bit) in
    let small = shr_below register n 1 (rw add-one within) in
    rw (low_bits-xor (suc n) half (carry * taps), register_bits_beyond n 1 (suc n) half (sym (add-one n)) small)
    (divided_more front (register % 2 ∷ []) (low_bits n half) (bit ∷ []) (carry ∷ []) _ _ bits refl
    (omega (arith, length-low_bits)) (cc) (rw low_bits-suc at before)
    (carry_multiple (suc n) carry taps (and_le_r (bit_xor register bit) 1)))

module _ (n taps : ℕ) (positive : 0 < n) (small : taps < 2 ^ n) where
  divided : (front bits : List ℕ) (register : ℕ) → AllBits front → AllBits bits → register < 2 ^ n →
      IsDivisibleBy (front ++ low_bits n register) (1 ∷ low_bits n taps) →
      IsDivisibleBy ((front ++ bits) ++ low_bits n (fold (shifted taps) register bits)) (1 ∷ low_bits n taps) ×
      (fold (shifted taps) register bits < 2 ^ n)
  divided front [] register bf bb within before = (rw append-nil before, within)
  divided front (bit ∷ bits) register bf bb within before =
      let head = All-head IsBit bit bits bb in
      let carry = bit_and (bit_xor register bit) 1 in
      let taken : carry * taps ≤ 1 * taps = mul-le _ _ _ _ (and_le_r (bit_xor register bit) 1) (omega arith) in
      rw (← append_assoc front (bit ∷ []) bits)
      (divided (front ++ bit ∷ []) bits (shifted taps register bit) (All-push IsBit front bit bf head) (All-tail IsBit bit bits bb)
      (xor_lt n (register / 2) (carry * taps) (omega arith) (omega arith))
      (remainder_more n front register bit taps positive bf within head before))

  pub remainder_of : (bits : List ℕ) → AllBits bits →
      IsDivisibleBy (bits ++ low_bits n (fold (shifted taps) 0 bits)) (1 ∷ low_bits n taps) × (fold (shifted taps) 0 bits < 2 ^ n)
  remainder_of bits all =
      divided [] bits 0 (All-nil IsBit) all (pow_pos n)
      (rw low_bits-zero (IsDivisibleBy-zeros n _ (omega (arith, length-low_bits n taps))))

-- ## OctetSteps: Division with a table: one table lookup has the effect of eight steps of the shift register. All 256 entries are checked
-- by computation.

pub taps_of_g40 : 1 ∷ low_bits 40 618479558656 ≡ fire_generator
unfolding low_bits
taps_of_g40 = refl

is_entry : ℕ → Bool
is_entry octet = eqb (get_or OCTET_REMAINDERS octet 0) (fold (shifted 618479558656) 0 (low_bits 8 octet))

all_entries : tested is_entry 256 ≡ true
unfolding tested is_entry low_bits
all_entries = refl

-- the register is the remainder of these bits, followed by 40 zeros, on division by the Fire code's generator
abbrev pub IsRemainder : (bits : List ℕ) (register : ℕ) → Type 0
IsRemainder bits register = IsDivisibleBy (bits ++ low_bits 40 register) fire_generator × (register < 2 ^ 40)

pub empty_register : IsRemainder [] 0
empty_register = (rw low_bits-zero (IsDivisibleBy-zeros 40 fire_generator (omega arith)), omega arith)

pub entry_multiple : (octet : ℕ) → octet < 256 → IsRemainder (low_bits 8 octet) (get_or OCTET_REMAINDERS octet 0)
unfolding is_entry
entry_multiple octet within =
    rw (eqb-true _ _ (passed is_entry 256 all_entries octet within), ← taps_of_g40)
    (remainder_of 40 618479558656 (lit< tt) (lit< tt) (low_bits 8 octet) (AllBits-low_bits 8 octet))

pub octet_more : (front whole : List ℕ) (register octet entry : ℕ) → AllBits front → whole ≡ front ++ low_bits 8 octet →
    IsRemainder front register → IsRemainder (low_bits 8 (bit_and (bit_xor register octet) 255)) entry →
    IsRemainder whole (bit_xor (register / 2 ^ 8) entry)
octet_more front whole register octet entry bits joined (before, within) (multiple, small) =
    let out = low_bits 8 register in
    let next = low_bits 8 octet in
    let sum = bit_xor register octet in
    let rest = register / 2 ^ 8 in (
      rw (
        joined,
        low_bits-xor 40 rest entry,
        register_bits_beyond 32 (length out) 40 rest (omega (arith, length-low_bits 8 register)) (shr_below register 32 8 within),
      )
          (divided_more front out (low_bits 32 rest) next (low_bits 8 (bit_and sum 255)) (low_bits 40 entry) _ bits
          (omega (arith, length-low_bits)) (omega (arith, length-low_bits))
          (cc (
            lowest_octet sum,
            low_bits-xor 8 register octet,
            add_bits_again out next (AllBits-low_bits 8 octet) (omega (arith, length-low_bits)),
          ))
          (rw (register_bits_split 8 32 40 register refl) at before) multiple),
      xor_lt 40 rest entry (omega arith) small,
    )

-- ## Crcs: A codeword consists of information bits and check bits. Information bits have exactly one CRC: division gives one, and the
-- remainder of a division is unique.

-- the n check bits, inverted, are the remainder of the information bits
pub record IsCrc (n taps : ℕ) (info crc : List ℕ) : Type 0 where
  pub count : length crc ≡ n
  pub bits : AllBits crc
  pub quotient : IsDivisibleBy (info ++ xor_bits crc (replicate n 1)) (1 ∷ low_bits n taps)

module _ (n taps : ℕ) (d : List ℕ) where
  as_ones : (p : List ℕ) → length p ≡ n → length p ≡ length {A = ℕ} (replicate n 1)
  as_ones p count = count ∙ sym (length-replicate n 1)

  IsCrc-check_bits : 0 < n → taps < 2 ^ n → AllBits d → IsCrc n taps d (check_bits n taps d)
  IsCrc-check_bits positive small all =
      let register = fold (shifted taps) 0 d in
      let r = low_bits n register in
      let ones : List ℕ = replicate n 1 in
      let e = as_ones r (length-low_bits n register) in record {
        count = length-xor_bits r ones e ∙ length-low_bits n register;
        bits = AllBits-xor_bits r ones;
        quotient = rw (add_bits_twice r ones (AllBits-low_bits n register) e) (remainder_of n taps positive small d all).0;
      }

  inverted_long : (p : List ℕ) → IsCrc n taps d p → length (xor_bits p (replicate n 1)) ≡ length (low_bits n taps)
  inverted_long p is = length-xor_bits p _ (as_ones p is.count) ∙ is.count ∙ sym (length-low_bits n taps)

  one_crc : (p p' : List ℕ) → IsCrc n taps d p → IsCrc n taps d p' → p ≡ p'
  one_crc p p' is is' =
      let ones : List ℕ = replicate n 1 in
      cc (
        add_bits_twice p ones is.bits (as_ones p is.count),
        add_bits_twice p' ones is'.bits (as_ones p' is'.count),
        same_remainder d _ _ (low_bits n taps) (AllBits-xor_bits p ones) (AllBits-xor_bits p' ones)
            (inverted_long p is) (inverted_long p' is') is.quotient is'.quotient,
      )

pub add_after : (n : ℕ) (d p added : List ℕ) → length d ≡ n → AllBits d →
    xor_bits (d ++ p) (replicate n 0 ++ added) ≡ d ++ xor_bits p added
add_after n d p added count bits =
    xor_bits-append d (replicate n 0) p added (count ∙ sym (length-replicate n 0))
    ∙ ap (λ front. front ++ xor_bits p added) (xor_bits-zeros d n bits count)

-- a codeword of n information bits and k check bits: with its check bits inverted, it is a multiple of the generator
abbrev Word : (n k taps : ℕ) (word : List ℕ) → Type 0
Word n k taps w =
    (length w ≡ n + k) × AllBits w × IsMultiple (xor_bits w (replicate n 0 ++ replicate k 1)) (1 ∷ low_bits k taps)

module _ (n k taps : ℕ) (d : List ℕ) (ed : length d ≡ n) where
  word_of_crc : (p : List ℕ) → 0 < n → AllBits d → IsCrc k taps d p → Word n k taps (d ++ p)
  word_of_crc p positive bits is = (
    length-append d p ∙ omega (arith, is.count),
    AllBits-append d p bits is.bits,
    rw (add_after n d p (replicate k 1) ed bits) (record {
      leading_one = refl;
      fits = omega (
        arith,
        length-append d (xor_bits p (replicate k 1)),
        inverted_long k taps d p is,
        length-low_bits k taps,
      );
      quotient = is.quotient;
    }),
  )

  crc_of_word : (p : List ℕ) → Word n k taps (d ++ p) → IsCrc k taps d p
  crc_of_word p (count, bits, multiple) = record {
    count = omega (arith, length-append d p);
    bits = AllBits-back d p bits;
    quotient = rw (← add_after n d p (replicate k 1) ed (AllBits-front d p bits)) multiple.quotient;
  }

  one_word : (p p' : List ℕ) → Word n k taps (d ++ p) → Word n k taps (d ++ p') → p ≡ p'
  one_word p p' w w' = one_crc k taps d p p' (crc_of_word p w) (crc_of_word p' w')

pub cut : (n : ℕ) (w s front back : List ℕ) → s ≡ w → AllBits s → front ≡ take n s → back ≡ drop n s →
    (w ≡ front ++ back) × AllBits front × AllBits back
cut n w s front back same bits first second =
    (cc (take-append-drop n s), rw first (All-take IsBit n s bits), rw second (All-drop IsBit n s bits))

-- ## XcchWords: A codeword of the Fire code consists of 184 information bits and 40 check bits. The syndrome of a word of 224 bits is 0
-- exactly if the word is a codeword.

xcch_word : (d p : List ℕ) → length d ≡ 184 → AllBits d → IsCrc 40 618479558656 d p → IsXcchCodeword (d ++ p)
unfolding low_bits
xcch_word d p ed bits is = assumption (word_of_crc 184 40 618479558656 d ed p (lit< tt) bits is)

pub xcch_crc_word : (d : List ℕ) → length d ≡ 184 → AllBits d → IsXcchCodeword (d ++ xcch_crc d)
unfolding xcch_crc
xcch_crc_word d ed bits =
    xcch_word d (check_bits 40 618479558656 d) ed bits (IsCrc-check_bits 40 618479558656 d (lit< tt) (lit< tt) bits)

pub some_xcch_crc : (d : List ℕ) → length d ≡ 184 → AllBits d → (p : List ℕ) × IsXcchCodeword (d ++ p)
some_xcch_crc d ed bits = (xcch_crc d, xcch_crc_word d ed bits)

pub one_xcch_crc : (d p p' : List ℕ) → length d ≡ 184 → IsXcchCodeword (d ++ p) → IsXcchCodeword (d ++ p') → p ≡ p'
unfolding low_bits
one_xcch_crc d p p' ed w w' = one_word 184 40 618479558656 d ed p p' (assumption) (assumption)

forty_ones : low_bits 40 0xffffffffff ≡ replicate 40 1
unfolding low_bits
forty_ones = refl

xor_again : (a b : ℕ) → bit_xor a (bit_xor a b) ≡ b
xor_again a b = cc (xor_assoc a a b, xor_self a, xor_zero_l b)

module _ (d : List ℕ) (register : ℕ) (ed : length d ≡ 184) (bits : AllBits d)
    (multiple : IsDivisibleBy (d ++ low_bits 40 register) fire_generator) where
  inverted_remainder : (check : ℕ) → xor_bits (low_bits 40 check) (replicate 40 1) ≡ low_bits 40 register →
      IsXcchCodeword (d ++ low_bits 40 check)
  inverted_remainder check is =
      xcch_word d (low_bits 40 check) ed bits
      (record { count = length-low_bits 40 check; bits = AllBits-low_bits 40 check; quotient = rw (is, taps_of_g40) multiple })

  pub xcch_of_remainder : (p : List ℕ) → register < 2 ^ 64 → p ≡ low_bits 40 (bit_not w64 register) → IsXcchCodeword (d ++ p)
  xcch_of_remainder p within is = rw is (inverted_remainder _ (inverted_register 40 register (lit≤ tt) within))

  xcch_of_sum : (check : ℕ) → bit_xor register check ≡ 0xffffffffff → IsXcchCodeword (d ++ low_bits 40 check)
  xcch_of_sum check same =
      inverted_remainder check (cc (
        forty_ones,
        low_bits-xor 40 check 0xffffffffff,
        same,
        xor_comm register check,
        xor_again check register,
      ))

  pub xcch_sum : (check : ℕ) → register < 2 ^ 40 → check < 2 ^ 40 →
      (bit_xor register check ≡ 0xffffffffff) ↔ IsXcchCodeword (d ++ low_bits 40 check)
  xcch_sum check within within' = (
    xcch_of_sum check,
    λ word.
        let inverted = bit_xor register 0xffffffffff in
        let again = xor_again register 0xffffffffff in
        cc (
          again,
          same_register 40 check inverted within' (xor_lt 40 register 0xffffffffff within (omega arith))
              (one_xcch_crc d _ _ ed word (xcch_of_sum inverted again)),
        ),
  )

  pub syndrome_of : (check : ℕ) → register < 2 ^ 40 → check < 2 ^ 40 → let syndrome =
      bit_xor (bit_xor register check) 0xffffffffff in
      IsXcchCodeword (xor_bits (d ++ low_bits 40 check) (replicate 184 0 ++ low_bits 40 syndrome)) ×
      ((syndrome ≡ 0) ↔ IsXcchCodeword (d ++ low_bits 40 check)) ×
      (syndrome < 2 ^ 40)
  syndrome_of check within within' =
      let sum = bit_xor register check in
      let syndrome = bit_xor sum 0xffffffffff in
      let again = xor_again sum 0xffffffffff in
      let holds = xcch_sum check within within' in (
        rw (add_after 184 d (low_bits 40 check) (low_bits 40 syndrome) ed bits, ← low_bits-xor 40 check syndrome)
            (xcch_of_sum (bit_xor check syndrome) (cc (xor_assoc register check syndrome, again))),
        (λ none. holds.0 (rw (none, xor_zero_r) at again), λ word. rw (holds.1 word)),
        xor_lt 40 sum _ (xor_lt 40 register check within within') (omega arith),
      )

-- ## RachWords: A RACH codeword consists of 8 information bits and 6 check bits.

pub rach_word : (d p b : List ℕ) → length d ≡ 8 → AllBits d → IsCrc 6 61 d p → length b ≡ 6 → AllBits b →
    IsRachCodeword (d ++ xor_bits p b) b
unfolding low_bits
rach_word d p b ed bd is eb bb =
    let e : length p ≡ length b = omega (arith, is.count) in
    record {
      count = length-append d (xor_bits p b) ∙ omega (arith, length-xor_bits p b e, is.count);
      bits = AllBits-append d _ bd (AllBits-xor_bits p b);
      bsic_bit_count = eb;
      bsic_bits = bb;
      multiple = rw (add_after 8 d (xor_bits p b) b ed bd, add_bits_twice p b is.bits e)
          (word_of_crc 8 6 61 d ed p (lit< tt) bd is).2;
    }

rach_crc : (d p b : List ℕ) → length d ≡ 8 → IsRachCodeword (d ++ p) b → IsCrc 6 61 d (xor_bits p b)
    × (xor_bits (xor_bits p b) b ≡ p)
unfolding low_bits
rach_crc d p b ed word =
    let bits = AllBits-front d p word.bits in
    let ep : length p ≡ 6 = omega (arith, word.count, length-append d p) in
    let e = ep ∙ sym word.bsic_bit_count in (
      record {
        count = length-xor_bits p b e ∙ ep;
        bits = AllBits-xor_bits p b;
        quotient = rw (← add_after 8 d (xor_bits p b) (replicate 6 1) ed bits, ← add_after 8 d p b ed bits) word.multiple.quotient;
      },
      add_bits_twice p b (AllBits-back d p word.bits) e,
    )

pub rach_crc_word : (d b : List ℕ) → length d ≡ 8 → AllBits d → length b ≡ 6 → AllBits b →
    IsRachCodeword (d ++ crc_of_rach d b) b
unfolding crc_of_rach
rach_crc_word d b ed bd eb bb =
    rach_word d (check_bits 6 61 d) b ed bd (IsCrc-check_bits 6 61 d (lit< tt) (lit< tt) bd) eb bb

pub one_rach_crc : (d p p' b : List ℕ) → length d ≡ 8 → IsRachCodeword (d ++ p) b → IsRachCodeword (d ++ p') b → p ≡ p'
one_rach_crc d p p' b ed word word' =
    let crc = rach_crc d p b ed word in
    let crc' = rach_crc d p' b ed word' in
    cc (crc.1, crc'.1, one_crc 6 61 d (xor_bits p b) (xor_bits p' b) crc.0 crc'.0)

pub rach_code : (d p x b : List ℕ) → length d ≡ 8 → AllBits d → IsCrc 6 61 d p → length x ≡ 6 → AllBits x →
    length b ≡ 6 →
    AllBits b → (xor_bits p x ≡ b) ↔ IsRachCodeword (d ++ x) b
rach_code d p x b ed bd is ex bx eb bb =
    let word = rach_word d p b ed bd is eb bb in (
      λ same. rw (← add_bits_again p x bx (omega (arith, is.count)), same) word,
      λ held. cc (one_rach_crc d x (xor_bits p b) b ed held word, add_bits_again p b bb (omega (arith, is.count))),
    )

-- ## SchWords: An SCH codeword consists of 25 information bits and 10 check bits.

pub sch_word : (d p : List ℕ) → length d ≡ 25 → AllBits d → IsCrc 10 698 d p → IsSchCodeword (d ++ p)
unfolding low_bits
sch_word d p ed bits is = assumption (word_of_crc 25 10 698 d ed p (lit< tt) bits is)

pub sch_crc_word : (d : List ℕ) → length d ≡ 25 → AllBits d → IsSchCodeword (d ++ sch_crc d)
unfolding sch_crc
sch_crc_word d ed bits = sch_word d (check_bits 10 698 d) ed bits (IsCrc-check_bits 10 698 d (lit< tt) (lit< tt) bits)

pub one_sch_crc : (d p p' : List ℕ) → length d ≡ 25 → IsSchCodeword (d ++ p) → IsSchCodeword (d ++ p') → p ≡ p'
unfolding low_bits
one_sch_crc d p p' ed w w' = one_word 25 10 698 d ed p p' (assumption) (assumption)

-- ## ComputedCrcs: The check bits that the definitions compute make information bits a codeword, and no others do.

pub is_xcch_crc : (d p : List ℕ) → length d ≡ 184 → AllBits d → (p ≡ xcch_crc d) ↔ IsXcchCodeword (d ++ p)
is_xcch_crc d p ed bits =
    let word = xcch_crc_word d ed bits in
    (λ e. rw e word, λ is. one_xcch_crc d p (xcch_crc d) ed is word)

pub is_rach_crc : (d p b : List ℕ) → length d ≡ 8 → AllBits d → length b ≡ 6 → AllBits b →
    (p ≡ crc_of_rach d b) ↔ IsRachCodeword (d ++ p) b
is_rach_crc d p b ed bits eb bb =
    let word = rach_crc_word d b ed bits eb bb in
    (λ e. rw e word, λ is. one_rach_crc d p (crc_of_rach d b) b ed is word)

pub is_sch_crc : (d p : List ℕ) → length d ≡ 25 → AllBits d → (p ≡ sch_crc d) ↔ IsSchCodeword (d ++ p)
is_sch_crc d p ed bits =
    let word = sch_crc_word d ed bits in
    (λ e. rw e word, λ is. one_sch_crc d p (sch_crc d) ed is word)

-- ## WorkedWords: The definitions of codewords, checked on worked examples.

-- n coefficients, modulo 2, of the product of two polynomials, beginning with the coefficient at index m
product_from : List ℕ → List ℕ → ℕ → ℕ → List ℕ
product_from q g m zero = []
product_from q g m (suc n) = product_coefficient q g m % 2 ∷ product_from q g (m + 1) n

-- the Fire code's generator is (D^23 + 1)(D^17 + D^3 + 1)
product_of_g40 :
    product_from (1 ∷ replicate 22 0 ++ 1 ∷ []) (1 ∷ replicate 13 0 ++ 1 ∷ 0 ∷ 0 ∷ 1 ∷ []) 0 41 ≡ fire_generator
unfolding product_from
product_of_g40 = refl

multiple_of_zeros : (n : ℕ) (t : List ℕ) → length t < n → IsMultiple (replicate n 0) (1 ∷ t)
multiple_of_zeros n t small = record {
  leading_one = refl;
  fits = rw length-replicate small;
  quotient = IsDivisibleBy-zeros n (1 ∷ t) (omega arith);
}

zeros_of_rach : IsRachCodeword (replicate 8 0 ++ replicate 6 1) (replicate 6 0)
zeros_of_rach = record {
  count = refl;
  bits = AllBits-table (replicate 8 0 ++ replicate 6 1) refl;
  bsic_bit_count = refl;
  bsic_bits = AllBits-table (replicate 6 0) refl;
  multiple = multiple_of_zeros 14 _ (lit< tt);
}

zeros_of_rach_under_ones : IsRachCodeword (replicate 14 0) (replicate 6 1)
zeros_of_rach_under_ones = record {
  count = refl;
  bits = AllBits-table (replicate 14 0) refl;
  bsic_bit_count = refl;
  bsic_bits = AllBits-table (replicate 6 1) refl;
  multiple = multiple_of_zeros 14 _ (lit< tt);
}

not_under_zeros : IsRachCodeword (replicate 14 0) (replicate 6 0) → ⊥
not_under_zeros word =
    let first : 0 ≡ 1 = ap (λ (xs : List ℕ). get_or xs 0 0)
    (one_rach_crc (replicate 8 0) (replicate 6 0) (replicate 6 1) (replicate 6 0) refl word zeros_of_rach) in
    omega (arith, first)

zeros_of_sch : IsSchCodeword (replicate 25 0 ++ replicate 10 1)
zeros_of_sch = record {
  count = refl;
  bits = AllBits-table (replicate 25 0 ++ replicate 10 1) refl;
  multiple = multiple_of_zeros 35 _ (lit< tt);
}

zeros_of_xcch : IsXcchCodeword (replicate 184 0 ++ replicate 40 1)
zeros_of_xcch = record {
  count = refl;
  bits = AllBits-table (replicate 184 0 ++ replicate 40 1) refl;
  multiple = multiple_of_zeros 224 _ (lit< tt);
}

-- a codeword of the Fire code in which only the last information bit is 1; all its check bits are 1 except check bits 13, 16, 22, 36 and 39
last_of_xcch_word : List ℕ
last_of_xcch_word = replicate 183 0 ++ 1 ∷ replicate 13 1 ++ 0 ∷ 1 ∷ 1 ∷ 0 ∷ replicate 5 1 ++ 0 ∷ replicate 13 1 ++ 0 ∷ 1
    ∷ 1 ∷ 0 ∷ []

last_of_xcch : IsXcchCodeword last_of_xcch_word
unfolding last_of_xcch_word
last_of_xcch = record {
  count = refl;
  bits = AllBits-table last_of_xcch_word refl;
  multiple = record {
    leading_one = refl;
    fits = lit≤ tt;
    quotient = IsDivisibleBy-zeros_append 183 _ _ (HasQuotient_self _ (AllBits-table fire_generator refl));
  };
}
