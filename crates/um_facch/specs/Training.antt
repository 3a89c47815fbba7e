-- The training sequence of all bursts that carry a block (this project's own rule), at most eight.
use Rattle.std.specs.Prelude.{ℕ, zero, suc, ◌+◌, nat_lt, if◌then◌else◌, ℤ, pos, ◌+ℤ◌, List, length, map, replicate}
use Rattle.std.specs.Prelude.{slice_index_or}
use Rattle.std.specs.List.{range_with_len}
use Rattle.um_block.specs.bit_blocks.SoftValues.{count_wrong_bits}
use Rattle.um_block.specs.burst_map.NormalBurst as normal
use Rattle.um_block.specs.burst_map.training_seq.Choice.{IsFirstMaximum, total_correlation}
use Rattle.um_block.specs.burst_map.training_seq.Sequences.{midamble}

-- the 26 soft bits in the midamble of burst number `index`, or zeros if there is no such burst; a burst of zeros correlates with nothing
abbrev pub midamble_or_zeros : (bursts : List (List ℤ)) (index : ℕ) → List ℤ
midamble_or_zeros bursts b = normal.training (slice_index_or bursts b (replicate 148 (pos 0)))

-- the sum of the correlations of at most eight bursts with a training sequence
abbrev pub correlation_of_all : (bursts : List (List ℤ)) (tsc : ℕ) → ℤ
correlation_of_all bursts tsc =
    total_correlation (midamble_or_zeros bursts 0) (midamble_or_zeros bursts 1) (midamble_or_zeros bursts 2)
    (midamble_or_zeros bursts 3) tsc
    +ℤ total_correlation (midamble_or_zeros bursts 4) (midamble_or_zeros bursts 5) (midamble_or_zeros bursts 6)
    (midamble_or_zeros bursts 7) tsc

-- the training sequence code, 0 to 7, has the greatest correlation with all bursts; on a tie, it is the lowest such code
abbrev pub IsDetectedTsc : (bursts : List (List ℤ)) (tsc : ℕ) → Type 0
IsDetectedTsc bursts tsc = IsFirstMaximum (correlation_of_all bursts) 7 tsc

-- how many of the 26 training bits of a burst disagree with a training sequence; 0 if there is no such burst
abbrev pub wrong_training_of : (bursts : List (List ℤ)) (tsc index : ℕ) → ℕ
wrong_training_of bursts tsc b =
    if nat_lt b (length bursts) then count_wrong_bits (midamble_or_zeros bursts b) (midamble tsc) else 0

-- the same of each of eight bursts
abbrev pub wrong_training_of_each : (bursts : List (List ℤ)) (tsc : ℕ) → List ℕ
wrong_training_of_each bursts tsc = map (wrong_training_of bursts tsc) (range_with_len 0 8)

-- how many of the training bits of all bursts, 26 of each, disagree with a training sequence
abbrev pub wrong_training_of_first : (bursts : List (List ℤ)) (tsc count : ℕ) → ℕ
wrong_training_of_first bursts tsc zero = 0
wrong_training_of_first bursts tsc (suc n) = wrong_training_of_first bursts tsc n + wrong_training_of bursts tsc n

abbrev pub wrong_training_of_all : (bursts : List (List ℤ)) (tsc : ℕ) → ℕ
wrong_training_of_all bursts tsc = wrong_training_of_first bursts tsc 8
