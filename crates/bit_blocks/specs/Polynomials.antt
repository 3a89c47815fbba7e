-- Bit lists as polynomials over GF(2), the coefficient of the highest power first (GSM 05.03 section 4.1.2).
use Rattle.std.specs.Prelude.{ℕ, ◌≡◌, ◌<◌, ◌≤◌, ◌+◌, ◌*◌, ◌%◌, List, [], ◌∷◌, length, slice_index}
use Rattle.std.proofs.Common.{zero, suc}
use Rattle.bit_blocks.specs.Bits.{AllBits}

-- the coefficient at a given index of the product of two polynomials, before reduction modulo 2: the sum of all products of coefficients
-- whose indexes add up to that index
abbrev pub product_coefficient : (quotient generator : List ℕ) (index : ℕ) → ℕ
product_coefficient [] g m = 0
product_coefficient (x ∷ q) g zero = x * slice_index g 0
product_coefficient (x ∷ q) g (suc m) = x * slice_index g (suc m) + product_coefficient q g m

-- `product` is the product of `quotient` and `generator` over GF(2)
pub record IsProduct (product quotient generator : List ℕ) : Type 0 where
  pub count : length quotient + length generator ≡ length product + 1
  pub bits : AllBits quotient
  pub each_coefficient : (m : ℕ) → m < length product → slice_index product m ≡ product_coefficient quotient generator m % 2

-- the first polynomial is divisible by the second: it is the product of the second and some quotient
abbrev pub IsDivisibleBy : (dividend generator : List ℕ) → Type 0
IsDivisibleBy x g = (q : List ℕ) × IsProduct x q g

-- `word` is a multiple of `generator`, where `generator` has leading coefficient 1 and is no longer than `word`
pub record IsMultiple (word generator : List ℕ) : Type 0 where
  pub leading_one : slice_index generator 0 ≡ 1
  pub fits : length generator ≤ length word
  pub quotient : IsDivisibleBy word generator
