-- The access burst (GSM 05.02 section 5.2.7).
use Rattle.std.specs.Prelude.{ℕ, ℤ, List, ◌++◌, slice_range, codes}
use Rattle.training_seq.specs.Sequences.{bits_from_ascii}
use Rattle.burst_map.specs.Tails.{tail_bits}

-- the eight extended tail bits at the start of an access burst
abbrev pub extended_tail_bits : List ℕ
extended_tail_bits = bits_from_ascii (codes "00111010")

-- the 41 training bits of an access burst
abbrev pub access_sequence : List ℕ
access_sequence = bits_from_ascii (codes "01001011011111111001100110101010001111000")

-- the 88 bits of an access burst: extended tail bits, training bits, 36 coded bits, tail bits
abbrev pub access_burst : (body : List ℕ) → List ℕ
access_burst body = extended_tail_bits ++ access_sequence ++ body ++ tail_bits

-- the 8 extended tail bits at the start of a received access burst of 88 soft bits. The other parts follow: 41 training bits, 36 coded
-- bits, 3 tail bits
abbrev pub head : (burst : List ℤ) → List ℤ
head burst = slice_range burst 0 8

abbrev pub training : (burst : List ℤ) → List ℤ
training burst = slice_range burst 8 49

abbrev pub body : (burst : List ℤ) → List ℤ
body burst = slice_range burst 49 85

abbrev pub tail : (burst : List ℤ) → List ℤ
tail burst = slice_range burst 85 88
