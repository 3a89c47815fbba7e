-- The path metrics of the sixteen trellis states, kept in two SIMD vectors of eight 16-bit lanes in bit-reversed order.
use Rattle.std.specs.Prelude.{ℕ, ◌≡◌, ◌+◌, ◌*◌, ◌/◌, ◌%◌, ◌<◌, ◌≤ℤ◌, ℤ, pos, negsuc}
use Rattle.std.specs.Prelude.{◌+ℤ◌, ◌-ℤ◌, List, [], ◌∷◌, length, map}
use Rattle.std.specs.Int.{w16}
use Rattle.lanes.specs.Lanes.{AreBetween, AreSigned, lane, lane_of_two}
use Rattle.trellis_decode.specs.Trellis.{branch_metric}
use Rattle.trellis_decode.specs.declared.acs_step.PathMetrics.{PathMetrics}

-- eight signed 16-bit lanes
abbrev pub AreInt16 : (lanes : List ℤ) → Type 0
AreInt16 = AreSigned w16 8

-- the path metric that a 16-bit lane represents: a lane holds the path metric minus 31,000
abbrev pub path_metric_of_lane : (value : ℤ) → ℤ
path_metric_of_lane value = value +ℤ pos 31000

-- the path metrics of states 0 to 15, from one vector for the even states and one for the odd states. The lanes of each are in the
-- bit-reversed order of the upper three bits of the state
abbrev pub metrics_of_lanes : (even odd : List ℤ) → List ℤ
metrics_of_lanes even odd = map path_metric_of_lane (
    lane even 0 ∷ lane odd 0 ∷ lane even 4 ∷ lane odd 4 ∷ lane even 2 ∷ lane odd 2 ∷ lane even 6 ∷ lane odd 6 ∷
    lane even 1 ∷ lane odd 1 ∷ lane even 5 ∷ lane odd 5 ∷ lane even 3 ∷ lane odd 3 ∷ lane even 7 ∷ lane odd 7 ∷ [])

-- the path metrics of states 0 to 15 that a `PathMetrics` holds
abbrev pub path_metric : PathMetrics → List ℤ
path_metric values = metrics_of_lanes values.even_states.lanes values.odd_states.lanes

-- eight lanes, and a branch metric can be added to or subtracted from each without overflow of 16 bits
abbrev pub HaveHeadroom16 : (lanes : List ℤ) → Type 0
HaveHeadroom16 = AreBetween (negsuc 32499) (pos 32500) 8

-- in each lane, the vectors `first` and `second` differ by at most 4,096
pub record DifferByAtMost4096 (first second : List ℤ) : Type 0 where
  pub lower_bound : (k : ℕ) → k < 8 → negsuc 4095 ≤ℤ (lane first k -ℤ lane second k)
  pub upper_bound : (k : ℕ) → k < 8 → (lane first k -ℤ lane second k) ≤ℤ pos 4096

-- sixteen lanes from -32,767 to 32,767, so their absolute values fit in 16 bits
abbrev pub AbsFit16Bits : (lanes : List ℤ) → Type 0
AbsFit16Bits = AreBetween (negsuc 32766) (pos 32767) 16

-- the values of states 0 to 15, each given by the lane that the state has in a survivor map
abbrev pub in_state_order : {A : Type 0} (value : ℕ → A) → List A
in_state_order value =
    value 0 ∷ value 4 ∷ value 2 ∷ value 6 ∷ value 1 ∷ value 5 ∷ value 3 ∷ value 7 ∷
    value 8 ∷ value 12 ∷ value 10 ∷ value 14 ∷ value 9 ∷ value 13 ∷ value 11 ∷ value 15 ∷ []

-- the lanes of two vectors, for states 0 to 7 and 8 to 15 in bit-reversed order, as sixteen lanes in state order
abbrev pub lanes_in_state_order : (low high : List ℤ) → List ℤ
lanes_in_state_order low high = in_state_order (lane_of_two 8 low high)

-- eight lanes in the range of branch metrics, -256 to 256
abbrev pub AreBranchMetrics : (lanes : List ℤ) → Type 0
AreBranchMetrics = AreBetween (negsuc 255) (pos 256) 8

-- the lanes of two vectors at four given indexes, interleaved: for each index, the lane of the first vector, then the lane of the second
abbrev pub interleaved_lanes : (first second : List ℤ) (i j k l : ℕ) → List ℤ
interleaved_lanes a b i j k l = lane a i ∷ lane b i ∷ lane a j ∷ lane b j ∷ lane a k ∷ lane b k ∷ lane a l ∷ lane b l ∷ []

-- the decision that a lane represents: bit 1 if the lane is negative, else bit 0
abbrev pub lane_decision : (difference : ℤ) → ℕ
lane_decision (pos n) = 0
lane_decision (negsuc n) = 1

-- a number below 8 with its three bits in reverse order
abbrev pub three_bits_reversed : (state : ℕ) → ℕ
three_bits_reversed k = 4 * (k % 2) + 2 * (k / 2 % 2) + k / 4

-- `lanes` holds the branch metrics of bit 0 in states 0 to 7, in bit-reversed order, for the `pair` of soft bits
pub record HasBranchMetrics (lanes pair : List ℤ) : Type 0 where
  pub size : length lanes ≡ 8
  pub count : length pair ≡ 2
  pub each_lane : (k : ℕ) → k < 8 → lane lanes k ≡ branch_metric (three_bits_reversed k) 0 pair

-- the lane of a state in a survivor map: the number of the state with its lower three bits in reverse order
abbrev pub lane_of_state : (state : ℕ) → ℕ
lane_of_state s = 8 * (s / 8) + three_bits_reversed (s % 8)

-- the decisions of states 0 to 15 in state order, read from two vectors (states 0 to 7 and 8 to 15) whose lanes are in bit-reversed order
abbrev pub lane_decisions : (low high : List ℤ) → List ℕ
lane_decisions low high = in_state_order (λ k. lane_decision (lane_of_two 8 low high k))

-- eight decisions, each -1 for bit 1 or 0 for bit 0
abbrev pub AreDecisionLanes : (lanes : List ℤ) → Type 0
AreDecisionLanes = AreBetween (negsuc 0) (pos 0) 8
