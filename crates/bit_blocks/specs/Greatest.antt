-- The first index with the greatest score.
use Rattle.std.specs.Prelude.{ℕ, ◌+◌, ℤ, if◌then◌else◌, int_lt}
use Rattle.std.proofs.Common.{zero, suc}

-- the index, 0 to `last`, with the greatest score, or the first of several such indexes
unfoldable pub first_greatest : (score : (ℕ → ℤ)) (last : ℕ) → ℕ
first_greatest score zero = 0
first_greatest score (suc last) =
    if int_lt (score (first_greatest score last)) (score (last + 1)) then last + 1 else first_greatest score last
