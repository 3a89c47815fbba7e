-- Detection, by correlation, of the training sequence of four received bursts (this project's own rule).
use Rattle.std.specs.Prelude.{ℕ, ◌≡◌, ◌≢◌, ◌+◌, ◌<◌, ◌≤◌, ◌⊎◌, ℤ, ◌+ℤ◌, ◌<ℤ◌}
use Rattle.std.specs.Prelude.{List, [], ◌∷◌}
use Rattle.training_seq.specs.Sequences.{midamble}
use Rattle.bit_blocks.specs.SoftValues.{likelihood, count_wrong_bits}

-- `best` is the index, 0 to `last`, with the greatest `score`, or the first of several such indexes
pub record IsFirstMaximum (score : ℕ → ℤ) (last best : ℕ) : Type 0 where
  pub in_range : best ≤ last
  pub others : (n : ℕ) → n ≤ last → n ≢ best → (score n <ℤ score best) ⊎ ((score n ≡ score best) × (best < n))

-- the sum of the correlations of four midambles, each of 26 soft bits, with a training sequence
abbrev pub total_correlation : (first_midamble second_midamble third_midamble fourth_midamble : List ℤ) (tsc : ℕ) → ℤ
total_correlation a b c d tsc =
    let bits = midamble tsc in
    ((likelihood a bits +ℤ likelihood b bits) +ℤ likelihood c bits) +ℤ likelihood d bits

-- the training sequence code, 0 to 7, has the greatest total correlation with four midambles; on a tie, it is the lowest such code
abbrev pub IsBestCorrelatedTsc : (first_midamble second_midamble third_midamble fourth_midamble : List ℤ) (tsc : ℕ) → Type 0
IsBestCorrelatedTsc a b c d tsc = IsFirstMaximum (total_correlation a b c d) 7 tsc

-- for each of four midambles, the number of its 26 soft bits that disagree with a training sequence
abbrev pub wrong_bits_of_midambles : (first_midamble second_midamble third_midamble fourth_midamble : List ℤ) (tsc : ℕ) → List ℕ
wrong_bits_of_midambles a b c d tsc =
    let bits = midamble tsc in
    count_wrong_bits a bits ∷ count_wrong_bits b bits ∷ count_wrong_bits c bits ∷ count_wrong_bits d bits ∷ []

-- the number of soft bits, of the 104 in four midambles, that disagree with a training sequence
abbrev pub wrong_midamble_bits : (first_midamble second_midamble third_midamble fourth_midamble : List ℤ) (tsc : ℕ) → ℕ
wrong_midamble_bits a b c d tsc =
    let bits = midamble tsc in
    count_wrong_bits a bits + count_wrong_bits b bits + count_wrong_bits c bits + count_wrong_bits d bits
