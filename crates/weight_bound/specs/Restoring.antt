-- A condition on soft bits that guarantees correct decoding: the most likely encoder input is then the one that was sent (this project's
-- own rule).
use Rattle.std.specs.Prelude.{ℕ, ◌≡◌, ◌≢◌, ◌<◌, ◌≤◌, ◌*◌, ℤ, ◌<ℤ◌, unsigned_abs, List, length, map}
use Rattle.std.specs.List.{All, Contains}
use Rattle.bit_blocks.specs.SoftValues.{count_wrong_bits}
use Rattle.conv_code.specs.Code.{encoding, IsEncoderInput}
use Rattle.conv_code.specs.Likelihood.{likelihood}

-- `min_abs` is the least and `max_abs` the greatest absolute value of the soft bits `soft`
pub record AreLeastAndGreatestStrength (soft : List ℤ) (min_abs max_abs : ℕ) : Type 0 where
  pub between : All (λ value. (min_abs ≤ unsigned_abs value) × (unsigned_abs value ≤ max_abs)) soft
  pub least : Contains (map unsigned_abs soft) min_abs
  pub greatest : Contains (map unsigned_abs soft) max_abs

-- at most three of the soft bits `soft` disagree with the coded bits `coded`, and all soft bits are of similar strength: four times their
-- least absolute value exceeds three times the greatest
pub record IsCorrectable (soft : List ℤ) (coded : List ℕ) : Type 0 where
  pub at_most_3_wrong_bits : count_wrong_bits soft coded ≤ 3
  pub min_abs : ℕ
  pub max_abs : ℕ
  pub strengths : AreLeastAndGreatestStrength soft min_abs max_abs
  pub similar_strengths : 3 * max_abs < 4 * min_abs

-- for the soft bits `soft`, `word` has a greater path metric than every other encoder input of its length
abbrev pub OthersAreLessLikely : (soft : List ℤ) (word : List ℕ) → Type 0
OthersAreLessLikely s u =
    (v : List ℕ) → IsEncoderInput v → length v ≡ length u → v ≢ u → likelihood s (encoding v) <ℤ likelihood s (encoding u)
