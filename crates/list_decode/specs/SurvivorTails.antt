-- The best deviation from the most likely word, the survivor of state 0, at or after each position.
use Rattle.std.specs.Prelude.{ℕ, ◌≡◌, ◌+◌, ◌-◌, ◌<◌, ℤ, List, length, slice_index, take}
use Rattle.trellis_decode.specs.Trellis.{traceback}
use Rattle.list_decode.specs.DeviatingWords.{state_after_bits, is_in_range, IsLeastLossFreePosition}
use Rattle.list_decode.specs.declared.tails.BestLaterDeviations.{BestLaterDeviations}

-- `states` holds the trellis state before each position of the survivor of state 0
abbrev pub AreSurvivorStates : (rows states : List ℕ) → Type 0
AreSurvivorStates rows states = (k : ℕ) → k < length rows → slice_index states k ≡ state_after_bits 0 (take k (traceback rows 0))

-- for each position of the survivor of state 0, `indices` holds the position at or after it where a deviation has the least loss
abbrev pub AreBestLaterIndices : (rows : List ℕ) (losses : List (List ℤ)) (indices : List ℕ) → Type 0
AreBestLaterIndices rows losses indices = (k : ℕ) → k + 4 < length rows →
    IsLeastLossFreePosition (traceback rows 0) losses (is_in_range k (length rows - 4)) (length rows - 4) (slice_index indices k)

-- for each position of the most likely word, `tails` holds the trellis state before it and the best position at or after it for a deviation
pub record AreBestLaterDeviations (rows : List ℕ) (losses : List (List ℤ)) (tails : BestLaterDeviations) : Type 0 where
  pub states : AreSurvivorStates rows tails.states
  pub indices : AreBestLaterIndices rows losses tails.indices
