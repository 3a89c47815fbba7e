-- The codewords of the three CRCs: information bits followed by check bits. GSM 05.03 requires that a codeword divided by the generator
-- leaves a remainder of ones, so a codeword with its check bits inverted is a multiple of the generator.
use Rattle.std.specs.Prelude.{ℕ, ◌≡◌, List, [], ◌∷◌, ◌++◌, length, replicate}
use Rattle.bit_blocks.specs.Bits.{AllBits, xor_bits}
use Rattle.bit_blocks.specs.Polynomials.{IsMultiple}

-- the Fire code's generator D^40 + D^26 + D^23 + D^17 + D^3 + 1 (GSM 05.03 section 4.1.2)
abbrev pub fire_generator : List ℕ
fire_generator =
    1 ∷ 0 ∷ 0 ∷ 0 ∷ 0 ∷ 0 ∷ 0 ∷ 0 ∷
    0 ∷ 0 ∷ 0 ∷ 0 ∷ 0 ∷ 0 ∷ 1 ∷ 0 ∷
    0 ∷ 1 ∷ 0 ∷ 0 ∷ 0 ∷ 0 ∷ 0 ∷ 1 ∷
    0 ∷ 0 ∷ 0 ∷ 0 ∷ 0 ∷ 0 ∷ 0 ∷ 0 ∷
    0 ∷ 0 ∷ 0 ∷ 0 ∷ 0 ∷ 1 ∷ 0 ∷ 0 ∷ 1 ∷ []

-- the generator of the RACH CRC, D^6 + D^5 + D^3 + D^2 + D + 1 (GSM 05.03 section 4.6)
abbrev pub rach_generator : List ℕ
rach_generator = 1 ∷ 1 ∷ 0 ∷ 1 ∷ 1 ∷ 1 ∷ 1 ∷ []

-- the generator of the SCH CRC, D^10 + D^8 + D^6 + D^5 + D^4 + D^2 + 1 (GSM 05.03 section 4.7)
abbrev pub sch_generator : List ℕ
sch_generator = 1 ∷ 0 ∷ 1 ∷ 0 ∷ 1 ∷ 1 ∷ 1 ∷ 0 ∷ 1 ∷ 0 ∷ 1 ∷ []

-- `word` is a codeword of the Fire code on xCCH: 184 information bits and 40 inverted check bits (GSM 05.03 section 4.1.2)
pub record IsXcchCodeword (word : List ℕ) : Type 0 where
  pub count : length word ≡ 224
  pub bits : AllBits word
  pub multiple : IsMultiple (xor_bits word (replicate 184 0 ++ replicate 40 1)) fire_generator

-- `word` is a codeword of an access burst: 8 information bits and the modulo 2 sum of 6 check bits and the BSIC (GSM 05.03 section 4.6)
pub record IsRachCodeword (word bsic : List ℕ) : Type 0 where
  pub count : length word ≡ 14
  pub bits : AllBits word
  pub bsic_bit_count : length bsic ≡ 6
  pub bsic_bits : AllBits bsic
  pub multiple : IsMultiple (xor_bits (xor_bits word (replicate 8 0 ++ bsic)) (replicate 8 0 ++ replicate 6 1)) rach_generator

-- `word` is a codeword of a synchronisation burst: 25 information bits and 10 check bits (GSM 05.03 section 4.7)
pub record IsSchCodeword (word : List ℕ) : Type 0 where
  pub count : length word ≡ 35
  pub bits : AllBits word
  pub multiple : IsMultiple (xor_bits word (replicate 25 0 ++ replicate 10 1)) sch_generator
