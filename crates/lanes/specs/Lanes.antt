-- Vectors of any width, as the lists of their lanes.
use Rattle.std.specs.Prelude.{ℕ, ◌≡◌, ◌-◌, ◌<◌, ◌≤ℤ◌, ◌-ℤ◌, ℤ, pos, List, length, slice_index_or}
use Rattle.std.specs.Prelude.{FitsSigned, if◌then◌else◌, int_lt, nat_lt}
use Rattle.std.specs.Int.{Width}

-- the lane of a vector at a given index, or 0 if the vector has no such lane
abbrev pub lane : (lanes : List ℤ) (index : ℕ) → ℤ
lane lanes k = slice_index_or lanes k (pos 0)

-- `lanes` consists of `n` signed numbers of the given width
pub record AreSigned (width : Width) (n : ℕ) (lanes : List ℤ) : Type 0 where
  pub count : length lanes ≡ n
  pub fits : (k : ℕ) → k < n → FitsSigned width (lane lanes k)

-- `lanes` consists of `n` numbers from `low` to `high`
pub record AreBetween (low high : ℤ) (n : ℕ) (lanes : List ℤ) : Type 0 where
  pub count : length lanes ≡ n
  pub lower_bound : (k : ℕ) → k < n → low ≤ℤ lane lanes k
  pub upper_bound : (k : ℕ) → k < n → lane lanes k ≤ℤ high

-- each difference of lanes of two vectors is a signed number of the given width
abbrev pub DifferencesFit : (width : Width) (n : ℕ) (first second : List ℤ) → Type 0
DifferencesFit width n first second = (k : ℕ) → k < n → FitsSigned width (lane first k -ℤ lane second k)

-- lane `k` of two vectors, one after the other, of which the first has `n` lanes
abbrev pub lane_of_two : (n : ℕ) (first second : List ℤ) (k : ℕ) → ℤ
lane_of_two n first second k = if nat_lt k n then lane first k else lane second (k - n)

-- the greater of two numbers
abbrev pub greater : (x y : ℤ) → ℤ
greater x y = if int_lt x y then y else x

-- each of the `n` lanes of `result` is what `operation` makes of the lanes of `first` and `second` at the same index, and has the given
-- width
pub record IsLanewise (width : Width) (n : ℕ) (operation : ℤ → ℤ → ℤ) (first second result : List ℤ) : Type 0 where
  pub each : (k : ℕ) → k < n → lane result k ≡ operation (lane first k) (lane second k)
  pub lanes : AreSigned width n result
