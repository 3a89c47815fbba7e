-- The synchronisation burst (GSM 05.02 section 5.2.5).
use Rattle.std.specs.Prelude.{ℕ, ℤ, List, ◌++◌, slice_range, codes}
use Rattle.training_seq.specs.Sequences.{bits_from_ascii}
use Rattle.burst_map.specs.Tails.{tail_bits}

-- the 64 training bits of a synchronisation burst
abbrev pub sync_sequence : List ℕ
sync_sequence = bits_from_ascii (codes "1011100101100010000001000000111100101101010001010111011000011011")

-- the 148 bits of a synchronisation burst: tail bits, 39 coded bits, training bits, 39 coded bits, tail bits
abbrev pub sync_burst : (first_half second_half : List ℕ) → List ℕ
sync_burst first second = tail_bits ++ first ++ sync_sequence ++ second ++ tail_bits

-- the 3 tail bits at the start of a received synchronisation burst of 148 soft bits. The other parts follow: 39 coded bits, 64 training
-- bits, 39 coded bits, 3 tail bits
abbrev pub head : (burst : List ℤ) → List ℤ
head burst = slice_range burst 0 3

abbrev pub first_coded_half : (burst : List ℤ) → List ℤ
first_coded_half burst = slice_range burst 3 42

abbrev pub training : (burst : List ℤ) → List ℤ
training burst = slice_range burst 42 106

abbrev pub second_coded_half : (burst : List ℤ) → List ℤ
second_coded_half burst = slice_range burst 106 145

abbrev pub tail : (burst : List ℤ) → List ℤ
tail burst = slice_range burst 145 148
