-- The bits of an error burst, and the first and the last of them.
use Rattle.{
  fire_code.{proofs.Lemmas.{low_bits-number_of, number_of_within, number_of}, specs.{Registers.low_bits, bit_blocks.Bits.AllBits}},
  std.{
    proofs.{
      Common.{List, add-zero, ap, arith, length, suc, ℕ, ◌%◌, ◌*◌, ◌+◌, ◌-◌, ◌/◌, ◌<◌, ◌^◌, ◌∙◌},
      Common.{◌≡◌, ◌≢◌, ◌≤◌},
      Math.Nat.pow-le-pow_right,
      lemmas.Nat.{Bits.{bit_at-trailing_zeros, bit_at-zero, bit_at_above, bit_at_cat_high, bit_at_cat_low, same_from_bits}, leading_top},
      lemmas.Nat.{le-div, div_below, pow_pos, shl_below, shr-shr},
    },
    specs.Int.{bit_at, leading_zeros, trailing_zeros, w64},
  },
  fire_repair.proofs.Syndromes.{Burst, pattern},
}

-- ## BurstBits: Bit k of a word with an error burst is bit k - start of its shape, and all others are 0.

pub bit_before : (shape start k : ℕ) → k < start → bit_at (shape * 2 ^ start) k ≡ 0
bit_before shape start k before = rw (add-zero, bit_at-zero) at (bit_at_cat_low shape start 0 k before)

pub bit_from : (shape start k i : ℕ) → k ≡ start + i → bit_at (shape * 2 ^ start) k ≡ bit_at shape i
bit_from shape start k i at =
    let same : k - start ≡ i = omega arith in
    rw (add-zero, same) at (bit_at_cat_high shape start 0 k (pow_pos start) (omega arith))

pub split : (n start : ℕ) → ((k : ℕ) → ((start ≤ k) × (k < start + 12) → ⊥) → bit_at n k ≡ 0) →
    (n / 2 ^ start * 2 ^ start ≡ n) × (n / 2 ^ start < 2 ^ 12)
split n start outside =
    let bits : (j i : ℕ) → bit_at (n / 2 ^ j) i ≡ bit_at n (j + i) = λ j i. ap (λ x. x % 2) (shr-shr n j i) in
    let none : n / 2 ^ start / 2 ^ 12 ≡ 0 =
    shr-shr n start 12 ∙ same_from_bits (n / 2 ^ (start + 12)) 0
    (λ i. grind (arith, bits (start + 12) i, outside (start + 12 + i), bit_at-zero i)) in (
      same_from_bits (n / 2 ^ start * 2 ^ start) n (λ k.
          let i = k - start in
          grind (arith, bit_before (n / 2 ^ start) start k, bit_from (n / 2 ^ start) start k i, bits start i, outside k)),
      omega arith,
    )

pub pattern_within : (b : Burst) → pattern b < 2 ^ 224
pattern_within b =
    let most = pow-le-pow_right {n = 2} (omega arith) {i = 12 + b.start} {j = 224} (omega arith) in
    omega (arith, shl_below b.shape 12 b.start b.short_shape)

pub as_number : (n : ℕ) (xs : List ℕ) → length xs ≡ n → AllBits xs →
    (low_bits n (number_of xs) ≡ xs) × (number_of xs < 2 ^ n)
as_number n xs count bits = rw (← count) (low_bits-number_of xs bits, number_of_within xs bits)

-- ## AreFirstAndLastBit: The first and the last bit of a shape that are 1, found by counting its trailing and leading zeros.

pub record AreFirstAndLastBit (shape first last : ℕ) : Type 0 where
  pub first_bit : bit_at shape first ≡ 1
  pub last_bit : bit_at shape last ≡ 1
  pub within : (first ≤ last) × (last < 12)
  pub none_outside : (i : ℕ) → bit_at shape i ≢ 0 → (first ≤ i) × (i ≤ last)

pub edges_of : (shape : ℕ) → 0 < shape → shape < 2 ^ 12 →
    AreFirstAndLastBit shape (trailing_zeros w64 shape) (63 - leading_zeros w64 shape)
edges_of shape nonzero small =
    let lowest = bit_at-trailing_zeros w64 shape nonzero (omega arith) in
    let highest = leading_top 64 shape nonzero (omega arith) in
    let m = highest.0 in
    let last : 63 - leading_zeros w64 shape ≡ m = omega (arith, highest.1) in
    let one : bit_at shape m ≡ 1 =
    omega (
      arith,
      le-div 1 shape (2 ^ m) (pow_pos m) (omega (arith, highest.2)),
      div_below shape (2 ^ m) 2 (pow_pos m) (omega (arith, highest.3)),
    ) in
    let none : (i : ℕ) → bit_at shape i ≢ 0 → (trailing_zeros w64 shape ≤ i) × (i ≤ m) = λ i bit.
    grind (arith, lowest.2 i, bit_at_above shape (suc m) i highest.3) in
    rw last (record {
      first_bit = lowest.1;
      last_bit = one;
      within = ((none m (λ zero. omega (arith, one, zero))).0, grind (arith, one, bit_at_above shape 12 m small));
      none_outside = none;
    })
