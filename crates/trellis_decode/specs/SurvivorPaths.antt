-- Survivors over a few positions of the trellis, used in the proof of the decoder.
use Rattle.std.specs.Prelude.{ℕ, ◌≡◌, ◌*◌, ◌%◌, ◌<◌, ◌≤◌, ◌≤ℤ◌, ℤ, pos, negsuc, List, [], ◌∷◌}
use Rattle.std.specs.Prelude.{◌++◌, length, slice_index, slice_index_or}
use Rattle.lanes.specs.Lanes.{lane}
use Rattle.trellis_decode.specs.Trellis.{next_trellis_state, IsSurvivor}
use Rattle.trellis_decode.specs.AcsLanes.{lane_of_state}
use Rattle.trellis_decode.specs.Words.{to_binary}

-- the state that the encoder reaches when it reads a list of bits, starting in a given state
abbrev pub state_after_bits : (state : ℕ) (bits : List ℕ) → ℕ
state_after_bits state [] = state
state_after_bits state (x ∷ u) = state_after_bits (next_trellis_state state x) u

-- `lane_map` and `metrics` describe the survivors over the positions of `soft`: `lane_map` holds the end state of each survivor, and
-- `metrics` and `metrics_after` are the path metrics before and after these positions. A survivor over these positions, followed by the
-- survivor of its end state, is the survivor of its start state
pub record AreSurvivors (metrics_after metrics : List ℤ) (lane_map : List ℕ) (soft : List ℤ) : Type 0 where
  pub bits : ℕ → List ℕ
  pub count : (s : ℕ) → s < 16 → 2 * length (bits s) ≡ length soft
  pub maps_to_end_state : (s : ℕ) → s < 16 → slice_index lane_map (lane_of_state s) ≡ lane_of_state (state_after_bits s (bits s))
  pub best : (rest : List ℤ) (lists : ℕ → List ℕ) (n : ℕ) → 4 ≤ n → ((s : ℕ) → s < 16 → length (lists s) ≡ n) →
      ((s : ℕ) → s < 16 → IsSurvivor s (lists s) rest (lane metrics_after s)) →
      (s : ℕ) → s < 16 → IsSurvivor s (bits s ++ lists (state_after_bits s (bits s))) (soft ++ rest) (lane metrics s)

-- the path metrics of all sixteen states lie between -1,024 and `limit`
pub record AreMetricsWithin (limit : ℕ) (metrics : List ℤ) : Type 0 where
  pub lower_bound : (s : ℕ) → s < 16 → negsuc 1023 ≤ℤ lane metrics s
  pub upper_bound : (s : ℕ) → s < 16 → lane metrics s ≤ℤ pos limit

-- the bits that traceback reads from survivor maps of four positions each, starting in a given lane: each map leads to the lane of a state,
-- whose four bits are the bits at these positions
abbrev pub survivor_traceback : (survivors : List (List ℕ)) (at : ℕ) → List ℕ
survivor_traceback [] at = []
survivor_traceback (map ∷ survivors) at = to_binary 4 (lane_of_state (slice_index map at % 16)) ++ survivor_traceback survivors
    (slice_index map at % 16)

-- from map `from` on, every entry of every survivor map is the number of a lane, that is, below 16
abbrev pub HoldLaneNumbersFromIndex : (from : ℕ) (survivors : List (List ℕ)) → Type 0
HoldLaneNumbersFromIndex from survivors = (group k : ℕ) → from ≤ group → group < length survivors → k < 16 →
    slice_index (slice_index_or survivors group []) k < 16
