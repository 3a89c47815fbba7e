-- No two coded bits share a position of a burst.
use Rattle.{
  half_bursts.specs.Halves.{carrying_burst, position_in_normal_burst},
  interleave.{proofs.Positions.{position_in_burst-below, same_coded_bit}, specs.Positions.{burst_of_bit, position_in_burst}},
  std.proofs.Common.{arith, ℕ, ◌%◌, ◌*◌, ◌-◌, ◌/◌, ◌<◌, ◌≡◌, ◌≤◌},
}

same_position : (k l : ℕ) → position_in_normal_burst k ≡ position_in_normal_burst l → position_in_burst k ≡ position_in_burst l
unfolding position_in_normal_burst
same_position k l same = grind (arith, position_in_burst-below k, position_in_burst-below l)

-- the parity of the position
same_parity : (k l : ℕ) → position_in_burst k ≡ position_in_burst l → k % 8 / 4 ≡ l % 8 / 4
unfolding position_in_burst
same_parity k l same = omega arith

same_burst : (n k l : ℕ) → 4 ≤ n → k % 8 / 4 ≡ l % 8 / 4 → carrying_burst n k ≡ carrying_burst n l →
    burst_of_bit k ≡ burst_of_bit l
unfolding carrying_burst burst_of_bit
same_burst n k l some parity same = grind arith

pub same_place : (n k l : ℕ) → 4 ≤ n → k < 456 → l < 456 → carrying_burst n k ≡ carrying_burst n l →
    position_in_normal_burst k ≡ position_in_normal_burst l → k ≡ l
same_place n k l some hk hl burst place =
    let here = same_position k l place in
    same_coded_bit k l hk hl (same_burst n k l some (same_parity k l here) burst) here

-- ## The formulas of the standard

pub at_full_rate : (k : ℕ) → carrying_burst 8 k ≡ k % 8
unfolding carrying_burst
at_full_rate k = grind arith

pub at_half_rate : (k : ℕ) → carrying_burst 6 k ≡ k % 8 - 4 * (k % 8 / 6)
unfolding carrying_burst
at_half_rate k = grind arith

pub of_a_block : (k : ℕ) → carrying_burst 4 k ≡ k % 4
unfolding carrying_burst
of_a_block k = grind arith
