-- Decoding of hard bits (soft bits that are all 127 or -127): one vector of 8-bit lanes holds the path metrics of all sixteen states.
use Rattle.std.specs.Prelude.{ℕ, ◌≡◌, ◌+◌, ◌*◌, ◌/◌, ◌%◌, ◌<◌, ◌⊎◌, ◌≤ℤ◌, ℤ, pos, negsuc}
use Rattle.std.specs.Prelude.{◌+ℤ◌, ◌*ℤ◌, List, length, if◌then◌else◌, int_lt}
use Rattle.std.specs.Int.{w8}
use Rattle.lanes.specs.Lanes.{AreBetween, AreSigned, lane}
use Rattle.trellis_decode.specs.Trellis.{branch_metric}
use Rattle.trellis_decode.specs.AcsLanes.{in_state_order, lane_of_state}

-- the soft bit is a hard bit, that is, 127 or -127
abbrev pub IsHardBit : ℤ → Type 0
IsHardBit p = (p ≡ pos 127) ⊎ (p ≡ negsuc 126)

-- the sign bit of a number: 1 if it is negative, else 0
abbrev pub sign_bit_of : (soft : ℤ) → ℕ
sign_bit_of p = if int_lt p (pos 0) then 1 else 0

-- sixteen signed 8-bit lanes
abbrev pub AreInt8 : (lanes : List ℤ) → Type 0
AreInt8 = AreSigned w8 16

-- sixteen lanes, and 1 can be added to or subtracted from each without overflow of 8 bits
abbrev pub HaveHeadroom8 : (lanes : List ℤ) → Type 0
HaveHeadroom8 = AreBetween (negsuc 126) (pos 126) 16

-- sixteen lanes, each -1, 0 or 1
abbrev pub HaveMagnitudeAtMostOne : (lanes : List ℤ) → Type 0
HaveMagnitudeAtMostOne = AreBetween (negsuc 0) (pos 1) 16

-- each lane exceeds each other lane by at most `most`
abbrev pub DifferByAtMost : (most : ℕ) → (lanes : List ℤ) → Type 0
DifferByAtMost most lanes = (j k : ℕ) → j < 16 → k < 16 → lane lanes j ≤ℤ (lane lanes k +ℤ pos most)

-- the path metric that an 8-bit lane represents: a lane holds the path metric divided by 254, minus 120
abbrev pub metric_of_hard_lane : (number : ℤ) → ℤ
metric_of_hard_lane number = pos 254 *ℤ (number +ℤ pos 120)

-- the path metrics of states 0 to 15, from a vector of 8-bit lanes with each state in its lane (`lane_of_state`)
abbrev pub hard_lane_metrics : (lanes : List ℤ) → List ℤ
hard_lane_metrics lanes = in_state_order (λ k. metric_of_hard_lane (lane lanes k))

-- the lane of the state that bit 0 leads to, given the lane of the current state
abbrev pub lane_after_bit_0 : (index : ℕ) → ℕ
lane_after_bit_0 k = 8 * (k % 2) + k % 8 / 2

-- the lane of the state that bit 1 leads to, given the lane of the current state
abbrev pub lane_after_bit_1 : (index : ℕ) → ℕ
lane_after_bit_1 k = lane_after_bit_0 k + 4

-- `lanes` holds the branch metrics of bit 0 in all sixteen states, divided by 254, for the `pair` of soft bits
pub record HasHardBranchMetrics (lanes pair : List ℤ) : Type 0 where
  pub size : length lanes ≡ 16
  pub count : length pair ≡ 2
  pub at_state : (s : ℕ) → s < 16 → branch_metric s 0 pair ≡ pos 254 *ℤ lane lanes (lane_of_state s)
