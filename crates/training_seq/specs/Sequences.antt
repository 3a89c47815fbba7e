-- The training sequences of the normal burst (GSM 05.02 section 5.2.3).
use Rattle.std.specs.Prelude.{ℕ, ◌-◌, List, [], ◌∷◌, map, codes, slice_index_or}

-- converts the character codes of the digits 0 and 1 to bits
abbrev pub bits_from_ascii : (digits : List ℕ) → List ℕ
bits_from_ascii digits = map (λ digit. digit - 48) digits

-- the 26 bits of the training sequences with codes 0 to 7
abbrev pub training_sequences : List (List ℕ)
training_sequences =
    bits_from_ascii (codes "00100101110000100010010111") ∷
    bits_from_ascii (codes "00101101110111100010110111") ∷
    bits_from_ascii (codes "01000011101110100100001110") ∷
    bits_from_ascii (codes "01000111101101000100011110") ∷
    bits_from_ascii (codes "00011010111001000001101011") ∷
    bits_from_ascii (codes "01001110101100000100111010") ∷
    bits_from_ascii (codes "10100111110110001010011111") ∷
    bits_from_ascii (codes "11101111000100101110111100") ∷ []

-- the training sequence with a given code, 0 to 7
abbrev pub midamble : (tsc : ℕ) → List ℕ
midamble tsc = slice_index_or training_sequences tsc []
