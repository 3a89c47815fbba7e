-- The most likely encoder input as a function of the soft bits; `IsMostLikely` is its law.
use Rattle.std.specs.Prelude.{ℕ, ◌-◌, ◌*◌, ◌/◌, ◌^◌, ℤ, List, length}
use Rattle.conv_code.specs.bit_blocks.Greatest.{first_greatest}
use Rattle.conv_code.specs.Code.{encoding}
use Rattle.conv_code.specs.Likelihood.{likelihood}
use Rattle.trellis_decode.specs.Words.{to_binary}

-- the encoder input of `n` bits with a given number, in lexicographic order: its last four bits are 0
abbrev pub nth_input : (n number : ℕ) → List ℕ
nth_input n number = to_binary n (16 * number)

-- the first of the most likely of all encoder inputs that have half as many bits as there are soft bits
unfoldable pub most_likely : (soft : List ℤ) → List ℕ
most_likely soft =
    let n = length soft / 2 in
    nth_input n (first_greatest (λ number. likelihood soft (encoding (nth_input n number))) (2 ^ (n - 4) - 1))
