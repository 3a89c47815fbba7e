-- Sums of soft bits, and training sequences as lists of signs.
use Rattle.std.specs.Prelude.{ℕ, ◌*◌, if◌then◌else◌, ℤ, pos, ◌+ℤ◌, ◌-ℤ◌, ◌*ℤ◌, int_le, List, []}
use Rattle.std.specs.Prelude.{◌∷◌, map, slice_index_or}

-- the element-wise sum of two lists; the result is as long as the shorter one
abbrev pub vector_sum : (xs ys : List ℤ) → List ℤ
vector_sum [] ys = []
vector_sum (x ∷ xs) [] = []
vector_sum (x ∷ xs) (y ∷ ys) = (x +ℤ y) ∷ vector_sum xs ys

-- the soft bit at a given index, or 0 if the list is too short
abbrev pub soft_bit_at : (values : List ℤ) (index : ℕ) → ℤ
soft_bit_at values i = slice_index_or values i (pos 0)

-- the factor of a training bit in a correlation: 1 for bit 0, -1 for bit 1
abbrev pub sign_of_bit : (bit : ℕ) → ℤ
sign_of_bit bit = pos 1 -ℤ pos (2 * bit)

-- the signs of a training sequence: 1 for each bit 0, and -1 for each bit 1
abbrev pub signs_of_bits : (bits : List ℕ) → List ℤ
signs_of_bits bits = map sign_of_bit bits

-- 1 if the soft bit at a given index disagrees with a training bit of the given sign (it is 0 or has the opposite sign), else 0
abbrev pub wrong_bits_at : (values : List ℤ) (index : ℕ) (sign : ℤ) → ℕ
wrong_bits_at values i sign = if int_le (soft_bit_at values i *ℤ sign) (pos 0) then 1 else 0
