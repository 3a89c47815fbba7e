-- The normal burst (GSM 05.02 section 5.2.3).
use Rattle.std.specs.Prelude.{ℕ, ℤ, List, [], ◌∷◌, ◌++◌, slice_range}
use Rattle.training_seq.specs.Sequences.{midamble}
use Rattle.burst_map.specs.Tails.{tail_bits}

-- the 148 bits of a normal burst, given its two halves of 57 coded bits and its training sequence code; both stealing flags are 1, as on
-- the control channels
abbrev pub normal_burst : (first_half second_half : List ℕ) (tsc : ℕ) → List ℕ
normal_burst first second tsc =
    tail_bits ++ first ++ 1 ∷ [] ++ midamble tsc ++ 1 ∷ [] ++ second ++ tail_bits

-- the 3 tail bits at the start of a received normal burst of 148 soft bits. The other parts follow: 57 coded bits, stealing flag, 26
-- training bits, stealing flag, 57 coded bits, 3 tail bits
abbrev pub head : (burst : List ℤ) → List ℤ
head burst = slice_range burst 0 3

abbrev pub first_coded_half : (burst : List ℤ) → List ℤ
first_coded_half burst = slice_range burst 3 60

abbrev pub stealing_flag_before_training : (burst : List ℤ) → List ℤ
stealing_flag_before_training burst = slice_range burst 60 61

abbrev pub training : (burst : List ℤ) → List ℤ
training burst = slice_range burst 61 87

abbrev pub stealing_flag_after_training : (burst : List ℤ) → List ℤ
stealing_flag_after_training burst = slice_range burst 87 88

abbrev pub second_coded_half : (burst : List ℤ) → List ℤ
second_coded_half burst = slice_range burst 88 145

abbrev pub tail : (burst : List ℤ) → List ℤ
tail burst = slice_range burst 145 148
