-- Lists of bits.
use Rattle.std.specs.Prelude.{ℕ, ◌+◌, ◌%◌, ◌≤◌, List, [], ◌∷◌}
use Rattle.std.specs.List.{All}

-- the number is a bit, that is, 0 or 1
abbrev pub IsBit : ℕ → Type 0
IsBit bit = bit ≤ 1

-- every element of the list is 0 or 1
abbrev pub AllBits : List ℕ → Type 0
AllBits bits = All IsBit bits

-- the bitwise XOR of two bit lists; the result is as long as the shorter one
abbrev pub xor_bits : (xs ys : List ℕ) → List ℕ
xor_bits [] ys = []
xor_bits (x ∷ xs) [] = []
xor_bits (x ∷ xs) (y ∷ ys) = ((x + y) % 2) ∷ xor_bits xs ys
