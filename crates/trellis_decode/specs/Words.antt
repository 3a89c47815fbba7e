-- Bit lists as binary numbers.
use Rattle.std.specs.Prelude.{ℕ, ◌/◌, ◌%◌, ◌^◌, List, [], ◌∷◌}
use Rattle.std.proofs.Common.{zero, suc}

-- the lowest `width` bits of a number, most significant bit first
abbrev pub to_binary : (width number : ℕ) → List ℕ
to_binary zero number = []
to_binary (suc n) number = (number / 2 ^ n % 2) ∷ to_binary n number
