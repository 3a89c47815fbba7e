-- Syndromes of error bursts: different bursts have different syndromes.
use Rattle.{
  bit_blocks.proofs.Lemmas.{AllBits-table, HasQuotient_self, IsDivisibleBy-zeros, IsDivisibleBy-zeros_append, divided_more},
  fire_code.proofs.Lemmas.{length-low_bits, low_bits-suc, low_bits-xor, low_bits-zero, lowest_of_xor, passed, register_bits_split, tested},
  fire_code.specs.{Registers.low_bits, Words.fire_generator, bit_blocks.{Bits.{IsBit, xor_bits}, Polynomials.IsDivisibleBy}},
  fire_repair.specs.{Bursts.{error_burst_syndrome, lfsr_steps, lfsr_step}, declared.bursts.ErrorBurst.ErrorBurst},
  std.{
    proofs.Common.{Bool, List, [], add-zero, zero-add, ap, ap₂, arith, bit_xor, eqb, eqb-true, inl, inr, length, lit≤, mul_assoc, refl},
    proofs.Common.{subst, suc, sym, true, zero, ℕ, ◌%◌, ◌&&◌, ◌*◌, ◌++◌, ◌+◌, ◌-◌, ◌/◌, ◌<◌, ◌^◌},
    proofs.{Common.{◌∙◌, ◌∷◌, ◌≡◌, ◌≤◌}, Math.Nat.pow-suc, lemmas.Bool.{cases_lt, and_parts}},
    proofs.lemmas.{List.{Elements.{All-head, All-nil, All-tail}, append-nil}, Nat.{pow-add, shl-shr, shr-shr, xor_block, xor_lt, xor_shr}},
    specs.Int.Bits.{xor_assoc, xor_self, xor_zero_r, xor_zero_l},
  },
}

-- an error burst in a word of 224 bits: a shape of twelve bits, which begins at bit `start`
pub record Burst : Type 0 where
  pub start : ℕ
  pub shape : ℕ
  pub start_fits : start ≤ 212
  pub short_shape : shape < 2 ^ 12

abbrev pub burst_at : (found : ErrorBurst) → found.start ≤ 212 → found.shape < 2 ^ 12 → Burst
burst_at found fits short = record { start = found.start; shape = found.shape; start_fits = fits; short_shape = short }

-- the error pattern of a burst, as a number: bit k is 1 if the burst inverts bit k of the word
abbrev pub pattern : Burst → ℕ
pattern b = b.shape * 2 ^ b.start

abbrev pub syndrome_of : Burst → ℕ
syndrome_of b = error_burst_syndrome b.start b.shape

-- ## Moves: Multiplication of a register by D modulo the generator is invertible.

-- the register divided by D, modulo the generator
abbrev pub div_D : ℕ → ℕ
div_D register = bit_xor (2 * register) (register / 2 ^ 39 * 1236959117313)

taken_twice : (a b : ℕ) → bit_xor (bit_xor a b) b ≡ a
taken_twice a b = cc (xor_assoc a b b, xor_self b, xor_zero_r a)

xor_shifted : (a b k c d : ℕ) → a / 2 ^ k ≡ c → b / 2 ^ k ≡ d → bit_xor a b / 2 ^ k ≡ bit_xor c d
xor_shifted a b k c d e e' = cc (xor_shr a b k, e, e')

pub moved_once-div_D : (register : ℕ) → register < 2 ^ 40 → lfsr_step (div_D register) ≡ register
moved_once-div_D register within =
    let carry = register / 2 ^ 39 in
    let half : div_D register / 2 ≡ bit_xor register (carry * 618479558656) =
    xor_shifted (2 * register) (carry * 1236959117313) 1 register (carry * 618479558656) (omega arith) (omega arith) in
    let lowest : div_D register % 2 ≡ carry = omega (arith, lowest_of_xor (2 * register) (carry * 1236959117313)) in
    rw (half, lowest) (taken_twice register (carry * 618479558656))

-- the register divided by D still has 40 bits, since the highest bits cancel
pub div_D_within : (register : ℕ) → register < 2 ^ 40 → div_D register < 2 ^ 40
div_D_within register within =
    let carry = register / 2 ^ 39 in
    let none : div_D register / 2 ^ 40 ≡ 0 =
    xor_shifted (2 * register) (carry * 1236959117313) 40 carry carry (omega arith) (omega arith) ∙ xor_self carry in
    omega arith

moved_once_within : (register : ℕ) → register < 2 ^ 40 → lfsr_step register < 2 ^ 40
moved_once_within register within = grind (arith, xor_lt 40)

moved_within : (n register : ℕ) → register < 2 ^ 40 → lfsr_steps n register < 2 ^ 40
unfolding lfsr_steps
moved_within zero register within = within
moved_within (suc n) register within = moved_within n (lfsr_step register) (moved_once_within register within)

highest_of_moved : (register : ℕ) → register < 2 ^ 40 → lfsr_step register / 2 ^ 39 ≡ register % 2
highest_of_moved register within =
    xor_shifted (register / 2) (register % 2 * 618479558656) 39 0 (register % 2) (omega arith) (omega arith)
    ∙ xor_zero_l (register % 2)

pub same_moved : (n a b : ℕ) → a < 2 ^ 40 → b < 2 ^ 40 → lfsr_steps n a ≡ lfsr_steps n b → a ≡ b
unfolding lfsr_steps
same_moved zero a b within within' same = same
same_moved (suc n) a b within within' same =
    let once = same_moved n (lfsr_step a) (lfsr_step b) (moved_once_within a within) (moved_once_within b within') same in
    let lowest : a % 2 ≡ b % 2 = cc (once, highest_of_moved a within, highest_of_moved b within') in
    let half : a / 2 ≡ b / 2 =
    cc (once, lowest, taken_twice (a / 2) (a % 2 * 618479558656), taken_twice (b / 2) (b % 2 * 618479558656)) in
    omega arith

moved-add : (m n k register : ℕ) → k ≡ m + n → lfsr_steps k register ≡ lfsr_steps n (lfsr_steps m register)
unfolding lfsr_steps
moved-add zero n k register is = let same : k ≡ n = omega arith in rw same
moved-add (suc m) n zero register is = absurd (omega arith)
moved-add (suc m) n (suc k) register is = moved-add m n k (lfsr_step register) (omega arith)

pub syndrome_within : (b : Burst) → syndrome_of b < 2 ^ 40
syndrome_within b = moved_within (212 - b.start) (b.shape * 2 ^ 28) (omega arith)

-- ## Exhausted: Different error bursts have different syndromes. A computation checks this for every shape: if up to 212 multiplications by
-- D turn it into a shape again (a register whose 28 lowest bits are 0), this is the same shape, shifted.

-- if the 28 lowest bits of the register are 0, its other bits, shifted left by `place`, are the shape
is_plain : ℕ → ℕ → ℕ → Bool
is_plain place shape register = elim (register % 2 ^ 28) [ zero ↦ eqb (register / 2 ^ 28 * 2 ^ place) shape | suc _ ↦ true ]

stays_plain : ℕ → ℕ → ℕ → ℕ → Bool
stays_plain zero place shape register = true
stays_plain (suc n) place shape register = is_plain place shape register && stays_plain n (suc place) shape (lfsr_step register)

is_alone : ℕ → Bool
is_alone shape = stays_plain 213 0 shape (shape * 2 ^ 28)

each_alone : tested is_alone 4096 ≡ true
unfolding tested is_alone stays_plain is_plain
each_alone = refl

plain_at : (n d place shape register : ℕ) → stays_plain n place shape register ≡ true → d < n →
    lfsr_steps d register % 2 ^ 28 ≡ 0 → lfsr_steps d register / 2 ^ 28 * 2 ^ (place + d) ≡ shape
unfolding is_plain stays_plain lfsr_steps
plain_at zero d place shape register stays before low = absurd (omega arith)
plain_at (suc n) zero place shape register stays before low =
    rw add-zero (eqb-true _ _ (rw (is_plain, low) at (and_parts (is_plain place shape register) _ stays).0))
plain_at (suc n) (suc d) place shape register stays before low =
    let count : suc place + d ≡ place + suc d = omega arith in
    let next = (and_parts (is_plain place shape register) _ stays).1 in
    rw (← count) (plain_at n d (suc place) shape (lfsr_step register) next (omega arith) low)

ordered : (b b' : Burst) → b.start ≤ b'.start → syndrome_of b ≡ syndrome_of b' → pattern b ≡ pattern b'
unfolding is_alone
ordered b b' order same =
    let d = b'.start - b.start in
    let register = b.shape * 2 ^ 28 in
    let there =
    same_moved (212 - b'.start) (lfsr_steps d register) (b'.shape * 2 ^ 28) (moved_within d register (omega arith)) (omega arith)
    (sym (moved-add d (212 - b'.start) (212 - b.start) register (omega arith)) ∙ same) in
    let plain =
    plain_at 213 d 0 b.shape register (passed is_alone 4096 each_alone b.shape b.short_shape) (omega arith) (omega (arith, there)) in
    let powers : 2 ^ b'.start ≡ 2 ^ d * 2 ^ b.start = ap (λ n. 2 ^ n) (omega arith) ∙ pow-add 2 d b.start in
    let shifted : b'.shape * 2 ^ d ≡ b.shape = rw (there, shl-shr, zero-add) at plain in
    rw (← shifted, powers) (mul_assoc b'.shape (2 ^ d) (2 ^ b.start))

pub same_burst : (b b' : Burst) → syndrome_of b ≡ syndrome_of b' → pattern b ≡ pattern b'
same_burst b b' same =
    elim (cases_lt b.start b'.start) [
      | inl order ↦ ordered b b' (omega arith) same
      | inr order ↦ sym (ordered b' b order (sym same))
    ]

-- ## Syndromes: An error burst in the last twelve bits of the word is its own syndrome, and moving it by one bit to the front multiplies
-- its syndrome by D.

-- the words of 224 bits that two numbers represent leave the same remainder on division by the generator
abbrev pub AreCongruent : ℕ → ℕ → Type 0
AreCongruent a b = IsDivisibleBy (low_bits 224 (bit_xor a b)) fire_generator

-- dividing the number by the generator leaves the register as the remainder
abbrev pub HasRemainder : ℕ → ℕ → Type 0
HasRemainder n register = AreCongruent n (register * 2 ^ 184)

pub AreCongruent-trans : (a b c : ℕ) → AreCongruent a b → AreCongruent b c → AreCongruent a c
AreCongruent-trans a b c ab bc =
    rw (append-nil, ← low_bits-xor, xor_assoc a b (bit_xor b c), ← xor_assoc b b c, xor_self b, xor_zero_l c) at
    (divided_more [] [] (low_bits 224 (bit_xor a b)) [] [] (low_bits 224 (bit_xor b c)) fire_generator (All-nil IsBit) refl
    (simp length-low_bits) refl ab bc)

without_leading_zero : (x : List ℕ) → 40 ≤ length x → IsDivisibleBy (0 ∷ x) fire_generator → IsDivisibleBy x fire_generator
without_leading_zero x room ([], p) = absurd (omega (arith, p.count))
without_leading_zero x room (zero ∷ q, p) = (
  q,
  record {
    count = omega (arith, p.count);
    bits = All-tail IsBit 0 q p.bits;
    each_coefficient = λ m lt. omega (arith, p.each_coefficient (suc m) (omega arith));
  },
)
without_leading_zero x room (suc y ∷ q, p) =
    absurd (omega (arith, All-head IsBit (suc y) q p.bits, p.each_coefficient 0 (omega arith)))

-- 225 zeros are a multiple of the generator, and so are 184 zeros followed by the generator
last_multiple : (bit : ℕ) → bit ≤ 1 → IsDivisibleBy (0 ∷ low_bits 224 (bit * (1236959117313 * 2 ^ 183))) fire_generator
unfolding low_bits
last_multiple zero small = IsDivisibleBy-zeros 225 fire_generator (lit≤ tt)
last_multiple (suc zero) small =
    IsDivisibleBy-zeros_append 184 fire_generator fire_generator (HasQuotient_self fire_generator (AllBits-table fire_generator refl))
last_multiple (suc (suc bit)) small = absurd (omega arith)

syndrome_earlier : (number register : ℕ) → number < 2 ^ 224 → number % 2 ≡ 0 → register < 2 ^ 40 →
    HasRemainder number register → HasRemainder (number / 2) (lfsr_step register)
syndrome_earlier number register small even within same =
    let last = register * 2 ^ 184 in
    let sum = bit_xor number last in
    let half = sum / 2 in
    let rest = low_bits 223 half in
    let bit = register % 2 in
    let added = bit * (1236959117313 * 2 ^ 183) in
    let next = bit_xor (number / 2) (lfsr_step register * 2 ^ 184) in
    let first : last / 2 ≡ register / 2 * 2 ^ 184 + bit * 2 ^ 183 = omega arith in
    let second : added ≡ bit * 618479558656 * 2 ^ 184 + bit * 2 ^ 183 = omega arith in
    let step : bit_xor half added ≡ next =
    ap (λ x. bit_xor x added) (xor_shr number last 1)
    ∙ xor_assoc (number / 2) (last / 2) added
    ∙ ap (bit_xor (number / 2)) (ap₂ bit_xor first second
    ∙ xor_block 184 (register / 2) (bit * 618479558656) (bit * 2 ^ 183) (bit * 2 ^ 183) (omega arith) (omega arith)
    ∙ omega (arith, xor_self)) in
    let lowest : sum % 2 ≡ 0 = omega (arith, lowest_of_xor number last) in
    let leading = low_bits-suc 223 sum ∙ ap (λ b. b ∷ rest) lowest in
    let none : half / 2 ^ 223 ≡ 0 = shr-shr sum 1 223 ∙ omega (arith, xor_lt 224 number last small (omega arith)) in
    let moved : low_bits 224 half ≡ rest ++ 0 ∷ [] = rw (register_bits_split 223 1 224 half refl, none, low_bits-zero) in
    let whole =
    ap (λ x. xor_bits x (low_bits 224 added)) (sym moved) ∙ sym (low_bits-xor 224 half added) ∙ ap (low_bits 224) step in
    without_leading_zero (low_bits 224 next) (omega (arith, length-low_bits))
    (rw whole at
    (divided_more [] (0 ∷ []) rest (0 ∷ []) (0 ∷ []) (low_bits 224 added) fire_generator (All-nil IsBit) refl
    (simp length-low_bits) refl
    (rw leading at same) (last_multiple bit (omega arith))))

syndrome_moved : (j number register : ℕ) → number * 2 ^ j < 2 ^ 224 → register < 2 ^ 40 →
    HasRemainder (number * 2 ^ j) register → HasRemainder number (lfsr_steps j register)
unfolding lfsr_steps
syndrome_moved zero number register small within same =
    subst (λ n. HasRemainder n register) (omega arith) same
syndrome_moved (suc j) number register small within same =
    let double : number * 2 ^ suc j ≡ 2 * (number * 2 ^ j) = rw pow-suc (omega arith) in
    syndrome_moved j number (lfsr_step register) (omega arith) (moved_once_within register within)
    (subst (λ n. HasRemainder n (lfsr_step register)) (omega arith)
    (syndrome_earlier (number * 2 ^ suc j) register small (omega arith) within same))

pub syndrome_of_burst : (b : Burst) → HasRemainder (pattern b) (syndrome_of b)
syndrome_of_burst b =
    let j = 212 - b.start in
    let last : b.start + j ≡ 212 = omega arith in
    let moved : pattern b * 2 ^ j ≡ b.shape * 2 ^ 212 = rw (mul_assoc, ← pow-add, last) in
    let same : b.shape * 2 ^ 28 * 2 ^ 184 ≡ pattern b * 2 ^ j = omega arith in
    syndrome_moved j (pattern b) (b.shape * 2 ^ 28) (omega arith) (omega arith)
    (rw (same, xor_self, low_bits-zero) (IsDivisibleBy-zeros 224 fire_generator (lit≤ tt)))
