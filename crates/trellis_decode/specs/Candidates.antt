-- The candidate metrics of one trellis step: two path metrics for each state. The step then selects the greater one.
use Rattle.std.specs.Prelude.{ℤ, ◌+ℤ◌, ◌-ℤ◌, List}
use Rattle.std.specs.Int.{w16}
use Rattle.lanes.specs.Lanes.{IsLanewise}
use Rattle.trellis_decode.specs.declared.acs_step.Candidates.{Candidates}

-- `candidates` holds the candidate metrics of bits 0 and 1 in states 0 to 7 and in states 8 to 15: each is the path metric of the next
-- state (in `even` after bit 0, in `odd` after bit 1) plus or minus the branch metric
pub record AreAcsCandidates (even odd branch_metrics : List ℤ) (candidates : Candidates) : Type 0 where
  pub low_states_bit_0 : IsLanewise w16 8 ◌+ℤ◌ even branch_metrics candidates.low_states_bit_0.lanes
  pub low_states_bit_1 : IsLanewise w16 8 ◌-ℤ◌ odd branch_metrics candidates.low_states_bit_1.lanes
  pub high_states_bit_0 : IsLanewise w16 8 ◌-ℤ◌ even branch_metrics candidates.high_states_bit_0.lanes
  pub high_states_bit_1 : IsLanewise w16 8 ◌+ℤ◌ odd branch_metrics candidates.high_states_bit_1.lanes
