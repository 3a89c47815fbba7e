-- The bits of a shift register that is represented as a number.
use Rattle.std.specs.Prelude.{ℕ, ◌/◌, ◌%◌, List, [], ◌∷◌}
use Rattle.std.proofs.Common.{zero, suc}

-- the lowest bits of a number, least significant bit first; the first argument is their count
unfoldable pub low_bits : (count number : ℕ) → List ℕ
low_bits zero number = []
low_bits (suc n) number = number % 2 ∷ low_bits n (number / 2)
