-- The convolutional code of rate 1/2 (GSM 05.03 section 4.1.3; sections 4.6 and 4.7 use it for RACH and SCH).
use Rattle.std.specs.Prelude.{ℕ, ◌≡◌, ◌≤◌, ◌+◌, ◌-◌, ◌%◌, if◌then◌else◌, nat_lt, List, [], ◌∷◌}
use Rattle.std.specs.Prelude.{length, slice_index, drop}
use Rattle.std.specs.List.{All, flat_map, range_with_len}
use Rattle.bit_blocks.specs.Bits.{AllBits}

-- the input bit that precedes a given position by a given delay, or 0 if there is no such bit
abbrev pub delayed_bit : (bits : List ℕ) (time delay : ℕ) → ℕ
delayed_bit u k delay = if nat_lt k delay then 0 else slice_index u (k - delay)

-- the first coded bit of the information bit at a given index, by the generator G0 = 1 + D^3 + D^4
abbrev pub g0_bit : (bits : List ℕ) (time : ℕ) → ℕ
g0_bit u k = (slice_index u k + delayed_bit u k 3 + delayed_bit u k 4) % 2

-- the second coded bit of the information bit at a given index, by the generator G1 = 1 + D + D^3 + D^4
abbrev pub g1_bit : (bits : List ℕ) (time : ℕ) → ℕ
g1_bit u k = (slice_index u k + delayed_bit u k 1 + delayed_bit u k 3 + delayed_bit u k 4) % 2

-- the two coded bits of the information bit at a given index
abbrev pub coded_pair : (bits : List ℕ) (time : ℕ) → List ℕ
coded_pair u k = g0_bit u k ∷ g1_bit u k ∷ []

-- the coded bits of an encoder input: two for each information bit, in order
abbrev pub encoding : (bits : List ℕ) → List ℕ
encoding u = flat_map (coded_pair u) (range_with_len 0 (length u))

-- `input` is a valid input of the encoder: at least five bits, the last four of them (the tail) 0
pub record IsEncoderInput (input : List ℕ) : Type 0 where
  pub count : 5 ≤ length input
  pub bits : AllBits input
  pub tail : All (λ bit. bit ≡ 0) (drop (length input - 4) input)

-- `coded` consists of the coded bits of some encoder input of `bit_count` bits
pub record IsCodeword (coded : List ℕ) (bit_count : ℕ) : Type 0 where
  pub u : List ℕ
  pub information : IsEncoderInput u
  pub count : length u ≡ bit_count
  pub code : coded ≡ encoding u
