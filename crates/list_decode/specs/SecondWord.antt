-- The second most likely encoder input as a function of the soft bits; `IsSecondMostLikely` is its law.
use Rattle.std.specs.Prelude.{ℕ, ◌+◌, ◌-◌, ◌/◌, ◌^◌, ℤ, List, length, nat_lt, if◌then◌else◌}
use Rattle.trellis_decode.specs.conv_code.bit_blocks.Greatest.{first_greatest}
use Rattle.trellis_decode.specs.MostLikely.{nth_input}
use Rattle.weight_bound.specs.conv_code.Code.{encoding}
use Rattle.weight_bound.specs.conv_code.Likelihood.{likelihood}

-- the path metric of the encoder input of `n` bits with this number
abbrev pub metric_of_input : (soft : List ℤ) (n number : ℕ) → ℤ
metric_of_input soft n number = likelihood soft (encoding (nth_input n number))

-- the number with this index among all numbers except `left_out`
abbrev pub other_number : (left_out index : ℕ) → ℕ
other_number left_out index = if nat_lt index left_out then index else index + 1

-- the most likely of all encoder inputs of `n` bits except that with the number `best`
abbrev pub most_likely_except : (soft : List ℤ) (n best : ℕ) → List ℕ
most_likely_except soft n best =
    nth_input n (other_number best (first_greatest (λ index. metric_of_input soft n (other_number best index)) (2 ^ (n - 4) - 2)))

unfoldable pub second_most_likely : (soft : List ℤ) → List ℕ
second_most_likely soft =
    let n = length soft / 2 in
    most_likely_except soft n (first_greatest (metric_of_input soft n) (2 ^ (n - 4) - 1))
