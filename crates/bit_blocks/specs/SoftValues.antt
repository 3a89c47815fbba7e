-- A soft bit is the demodulator's estimate of a received bit (this project's own convention): its sign is the decision, positive for 0 and
-- negative for 1, and its absolute value is the confidence.
use Rattle.std.specs.Prelude.{ℕ, ◌+◌, ◌*◌, Bool, if◌then◌else◌, ℤ, pos, negsuc, ◌+ℤ◌, ◌-ℤ◌, ◌*ℤ◌}
use Rattle.std.specs.Prelude.{◌≤ℤ◌, int_le, List, [], ◌∷◌}
use Rattle.std.specs.List.{All}

-- the number is a soft bit, that is, from -127 to 127
abbrev pub IsSoftBit : ℤ → Type 0
IsSoftBit value = (negsuc 126 ≤ℤ value) × (value ≤ℤ pos 127)

-- every number in the list is a soft bit
abbrev pub AllSoftBits : List ℤ → Type 0
AllSoftBits s = All IsSoftBit s

-- the bit metric: what a soft bit adds to the path metric if its bit is decoded as 0 (its value) or as 1 (its negated value)
abbrev pub bit_metric : (soft : ℤ) (bit : ℕ) → ℤ
bit_metric soft bit = soft *ℤ (pos 1 -ℤ pos (2 * bit))

-- the path metric of a list of coded bits for a list of soft bits: the sum of their bit metrics (`bit_metric`)
abbrev pub likelihood : (soft : List ℤ) (coded : List ℕ) → ℤ
likelihood [] c = pos 0
likelihood (p ∷ s) [] = pos 0
likelihood (p ∷ s) (x ∷ c) = bit_metric p x +ℤ likelihood s c

-- whether a soft bit disagrees with a bit, that is, is 0 or has the sign of the opposite bit
abbrev pub is_wrong_bit : (soft : ℤ) (bit : ℕ) → Bool
is_wrong_bit soft bit = int_le (bit_metric soft bit) (pos 0)

-- the number of soft bits that disagree with the bits at the same positions
abbrev pub count_wrong_bits : (soft : List ℤ) (coded : List ℕ) → ℕ
count_wrong_bits [] c = 0
count_wrong_bits (p ∷ s) [] = 0
count_wrong_bits (p ∷ s) (x ∷ c) = (if is_wrong_bit p x then 1 else 0) + count_wrong_bits s c
