-- Paths through the trellis of sixteen states, used in the proof of the decoder. A state consists of the last four input bits, the newest
-- as the least significant bit.
use Rattle.std.specs.Prelude.{ℕ, ◌≡◌, ◌/◌, ◌%◌, ◌^◌, ◌-◌, ◌<◌, ◌≤◌, ◌⊎◌, ℤ, pos, ◌+ℤ◌}
use Rattle.std.specs.Prelude.{◌-ℤ◌, ◌<ℤ◌, ◌≤ℤ◌, List, [], ◌∷◌, length, slice_index_or, drop}
use Rattle.conv_code.specs.bit_blocks.Bits.{IsBit}
use Rattle.conv_code.specs.Likelihood.{likelihood}
pub use Rattle.conv_code.specs.States.{next_trellis_state, first_coded_bit, second_coded_bit, encoding_from_state}

-- the path metric of a list of input bits for given soft bits, if the encoder starts in a given state
unfoldable pub metric_from_state : (state : ℕ) (bits : List ℕ) (soft : List ℤ) → ℤ
metric_from_state state u soft = likelihood soft (encoding_from_state state u)

-- the branch metric of an input bit in a state: what its two coded bits add to the path metric for a pair of soft bits
unfoldable pub branch_metric : (state bit : ℕ) (pair : List ℤ) → ℤ
branch_metric state bit pair = likelihood pair (first_coded_bit state bit ∷ second_coded_bit state bit ∷ [])

-- the list consists of bits, and each of the last four is 0
abbrev pub HasTailBits : List ℕ → Type 0
HasTailBits [] = Unit {0}
HasTailBits (x ∷ u) = IsBit x × (length u < 4 → x ≡ 0) × HasTailBits u

-- the first list precedes the second in lexicographic order, or equals it
abbrev pub IsNotLexicographicallyAfter : (first second : List ℕ) → Type 0
IsNotLexicographicallyAfter [] v = Unit {0}
IsNotLexicographicallyAfter (x ∷ u) [] = ⊥
IsNotLexicographicallyAfter (x ∷ u) (y ∷ v) = (x < y) ⊎ ((x ≡ y) × IsNotLexicographicallyAfter u v)

-- for an encoder that starts in `state`, the input bits `v` are no better than `u`: their path metric is smaller, or it is equal and `v`
-- does not come before `u` in lexicographic order
pub data IsNoBetterPath (state : ℕ) (soft : List ℤ) (v u : List ℕ) : Type 0 where
  LessMetric : metric_from_state state v soft <ℤ metric_from_state state u soft → IsNoBetterPath state soft v u
  EqualMetricButLater : metric_from_state state v soft ≡ metric_from_state state u soft → IsNotLexicographicallyAfter u v →
      IsNoBetterPath state soft v u

-- the bits that traceback reads from decision rows, starting in a given state. Bit `s` of each row is the decision in state `s`
abbrev pub traceback : (rows : List ℕ) (state : ℕ) → List ℕ
traceback [] state = []
traceback (row ∷ rows) state = (row / 2 ^ state % 2) ∷ traceback rows (next_trellis_state state (row / 2 ^ state % 2))

-- `path` is the survivor of `state`, that is, the best list of input bits from this state to the end, and `metric` is its path metric
pub record IsSurvivor (state : ℕ) (path : List ℕ) (soft : List ℤ) (metric : ℤ) : Type 0 where
  pub has_metric : metric ≡ metric_from_state state path soft
  pub tail_bits : HasTailBits path
  pub no_other_path_is_better : (v : List ℕ) → HasTailBits v → length v ≡ length path → IsNoBetterPath state soft v path

-- the candidate metric of a bit in a state: its branch metric for a pair of soft bits, plus the path metric of the next state
unfoldable pub candidate_metric : (metrics_after pair : List ℤ) (state bit : ℕ) → ℤ
candidate_metric after pair state bit = branch_metric state bit pair +ℤ slice_index_or after (next_trellis_state state bit) (pos 0)

-- `bit` is the decision in a state, the bit with the greater candidate metric (bit 0 on a tie), and `metric` is that candidate metric
abbrev pub IsDecision : (metrics_after pair : List ℤ) (state : ℕ) (metric : ℤ) (bit : ℕ) → Type 0
IsDecision after pair state value bit =
    ((bit ≡ 0) × (value ≡ candidate_metric after pair state 0)
    × (candidate_metric after pair state 1 ≤ℤ candidate_metric after pair state 0)) ⊎
    ((bit ≡ 1) × (value ≡ candidate_metric after pair state 1)
    × (candidate_metric after pair state 0 <ℤ candidate_metric after pair state 1))

-- at the first position of `soft`, `decision_row` holds the decision of each state, and `losses` the cost of the decision: how much path
-- metric the other bit would lose. `later_rows` holds the decisions at the later positions
pub record IsDecisionRow (decision_row : ℕ) (later_rows : List ℕ) (losses : List ℤ) (soft : List ℤ) : Type 0 where
  pub best : (s : ℕ) → s < 16 → IsSurvivor s (traceback (decision_row ∷ later_rows) s) soft (metric_from_state s (traceback
      (decision_row ∷ later_rows) s) soft)
  pub loss_of_each_state : (s : ℕ) → s < 16 → 4 ≤ length later_rows → slice_index_or losses s (pos 0) ≡
      metric_from_state s (traceback (decision_row ∷ later_rows) s) soft -ℤ metric_from_state s ((1 - decision_row / 2 ^ s % 2) ∷
      traceback later_rows (next_trellis_state s
      (1 - decision_row / 2 ^ s % 2))) soft

-- `rows` and `losses` hold one decision row and its costs for each position, that is, for each pair of soft bits
abbrev pub AreDecisions : (rows : List ℕ) (losses : List (List ℤ)) (soft : List ℤ) → Type 0
AreDecisions [] losses soft = length soft ≡ 0
AreDecisions (row ∷ rows) [] soft = ⊥
AreDecisions (row ∷ rows) (lost ∷ losses) soft = (2 ≤ length soft) × IsDecisionRow row rows lost soft
    × AreDecisions rows losses (drop 2 soft)
