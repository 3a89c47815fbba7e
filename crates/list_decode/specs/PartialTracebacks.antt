-- The traceback of a word, position by position, and the best position found so far for a deviation.
use Rattle.std.specs.Prelude.{ℕ, ◌≡◌, ◌+◌, ◌<◌, ◌≤◌, ℤ, pos, ◌-ℤ◌, List, length, slice_index}
use Rattle.std.specs.Prelude.{take}
use Rattle.trellis_decode.specs.Trellis.{traceback}
use Rattle.list_decode.specs.DeviatingWords.{state_after_bits, IsLeastLossPosition}
use Rattle.list_decode.specs.declared.deviation.PossibleDeviation.{PossibleDeviation}
use Rattle.list_decode.specs.declared.deviation.PartialTraceback.{PartialTraceback}

-- `best` describes the position before `limit` where a deviation from `word` loses least (position 0 if `limit` is 0)
pub record IsLeastLossDeviation (word : List ℕ) (losses : List (List ℤ)) (limit : ℕ) (best : PossibleDeviation) : Type 0 where
  pub index_at_most_limit : best.index ≤ limit
  pub in_range : best.index + 4 < length word
  pub state : best.state ≡ state_after_bits 0 (take best.index word)
  pub least : IsLeastLossPosition word losses limit best.index best.loss
  pub loss_limit : best.loss_limit ≡ best.loss -ℤ pos (slice_index word best.index)

-- traceback has written the bits of `u` before position `k`, and `reading` holds the trellis state there and the best position before `k`
-- for a deviation
pub record IsPartialTraceback (rows : List ℕ) (losses : List (List ℤ)) (u : List ℕ) (k : ℕ) (reading : PartialTraceback) : Type 0
  where
    pub state_in_range : reading.state < 16
    pub state : reading.state ≡ state_after_bits 0 (take k (traceback rows 0))
    pub bits_traced : take k u ≡ take k (traceback rows 0)
    pub best : IsLeastLossDeviation (traceback rows 0) losses k reading.best
