-- The best position for a deviation from a word: of the positions where a deviation is allowed (free positions), the one with the least
-- loss.
use Rattle.std.specs.Prelude.{ℕ, ◌≡◌, ◌≤◌, ◌<◌, Bool, true, ℤ, pos, ◌-ℤ◌, List, slice_index, take}
use Rattle.std.specs.Prelude.{Option, Some, None}
use Rattle.list_decode.specs.DeviatingWords.{state_after_bits, deviation_loss, IsLeastLossFreePosition}
use Rattle.list_decode.specs.declared.branch.LeastLossSoFar.{LeastLossSoFar}
use Rattle.list_decode.specs.declared.deviation.PossibleDeviation.{PossibleDeviation}

-- `deviation` describes a deviation from `word`: its position, the trellis state before it, and how much path metric it loses
pub record IsPossibleDeviation (word : List ℕ) (losses : List (List ℤ)) (deviation : PossibleDeviation) : Type 0 where
  pub bit : slice_index word deviation.index ≤ 1
  pub state : deviation.state ≡ state_after_bits 0 (take deviation.index word)
  pub loss : deviation.loss ≡ deviation_loss 0 word losses deviation.index
  pub loss_limit : deviation.loss_limit ≡ deviation.loss -ℤ pos (slice_index word deviation.index)

-- `found` is the deviation with the least loss at a free position before `limit`, or `None` if no position before `limit` is free
abbrev pub IsLeastLossDeviationOrNone : (word : List ℕ) (losses : List (List ℤ)) (free : (ℕ → Bool)) (limit : ℕ)
    (found : Option PossibleDeviation) → Type 0
IsLeastLossDeviationOrNone u losses free n None = (k : ℕ) → k < n → free k ≡ true → ⊥
IsLeastLossDeviationOrNone u losses free n (Some deviation) = IsPossibleDeviation u losses deviation ×
    IsLeastLossFreePosition u losses free n deviation.index

-- `spot` describes the free position before `limit` where a deviation has the least loss, and the trellis state before that position
pub record IsLeastLossSoFar (word : List ℕ) (losses : List (List ℤ)) (free : ℕ → Bool) (limit : ℕ) (spot : LeastLossSoFar) :
    Type 0 where
  pub state : spot.state ≡ state_after_bits 0 (take spot.index word)
  pub loss_limit : spot.loss_limit ≡ deviation_loss 0 word losses spot.index -ℤ pos (slice_index word spot.index)
  pub least : IsLeastLossFreePosition word losses free limit spot.index
