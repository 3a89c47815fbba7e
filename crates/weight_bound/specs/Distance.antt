-- The Hamming distance, and the free distance of the convolutional code, which is seven.
use Rattle.std.specs.Prelude.{ℕ, ◌≡◌, Bool, not, ◌==◌, List, length, slice_index}
use Rattle.std.specs.List.{count_by, range_with_len}
use Rattle.conv_code.specs.Code.{encoding, IsEncoderInput}

-- whether two lists differ at a given index
abbrev pub differ_at : (first second : List ℕ) (position : ℕ) → Bool
differ_at a b k = not (slice_index a k == slice_index b k)

-- the Hamming distance between two lists of equal length
abbrev pub distance : (first second : List ℕ) → ℕ
distance a b = count_by (differ_at a b) (range_with_len 0 (length a))

-- there are two encoder inputs of `bit_count` bits whose coded bits differ in exactly seven positions
pub record SomeDistanceIsSeven (bit_count : ℕ) : Type 0 where
  pub u : List ℕ
  pub v : List ℕ
  pub u_is_input : IsEncoderInput u
  pub v_is_input : IsEncoderInput v
  pub first_length : length u ≡ bit_count
  pub second_length : length v ≡ bit_count
  pub distance_is_seven : distance (encoding u) (encoding v) ≡ 7
