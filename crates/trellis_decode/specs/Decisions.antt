-- The invariant of the backward Viterbi pass that stores all decisions (`fill_decisions`).
use Rattle.std.specs.Prelude.{ℕ, ◌≡◌, ◌*◌, ◌<◌, ◌≤◌, ◌≤ℤ◌, ℤ, negsuc, List, length}
use Rattle.lanes.specs.Lanes.{lane}
use Rattle.trellis_decode.specs.SignedOctets.{AreSignedOctets}
use Rattle.trellis_decode.specs.Trellis.{IsSurvivor, AreDecisions, traceback}

-- `rows` and `losses` hold the decisions and their costs at the positions of `soft` (at least four), and `metrics` holds the path metric of
-- each state before these positions
pub record HasDecisionsAndMetrics (rows : List ℕ) (losses : List (List ℤ)) (soft metrics : List ℤ) : Type 0 where
  pub decisions : AreDecisions rows losses soft
  pub count : length soft ≡ 2 * length rows
  pub equal_counts : length losses ≡ length rows
  pub at_least : 4 ≤ length rows
  pub octets : AreSignedOctets soft
  pub lower_bound : (s : ℕ) → s < 16 → negsuc 1023 ≤ℤ lane metrics s
  pub best : (s : ℕ) → s < 16 → IsSurvivor s (traceback rows s) soft (lane metrics s)
