-- Bounds on the intermediate results of the correlation.
use Rattle.std.specs.Prelude.{ℕ, ℤ, pos, neg_ℤ, ◌≤ℤ◌}

-- the absolute value of a number is at most the bound
abbrev pub IsMagnitudeWithin : (bound : ℕ) (value : ℤ) → Type 0
IsMagnitudeWithin bound value = (neg_ℤ (pos bound) ≤ℤ value) × (value ≤ℤ pos bound)
