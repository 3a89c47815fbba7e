-- The positions of a block's 456 coded bits in its four bursts (GSM 05.03 section 4.1.4).
use Rattle.std.specs.Prelude.{ℕ, ◌+◌, ◌*◌, ◌/◌, ◌%◌, nat_le, if◌then◌else◌}

-- the number of the burst, 0 to 3, that carries a given coded bit
unfoldable pub burst_of_bit : (coded_bit : ℕ) → ℕ
burst_of_bit k = k % 4

-- the position of a given coded bit among the 114 coded bits of its burst
unfoldable pub position_in_burst : (coded_bit : ℕ) → ℕ
position_in_burst k = 2 * (49 * k % 57) + k % 8 / 4

-- the position of a given coded bit among the 592 bits of the four bursts. In each burst, three tail bits precede the first 57 coded bits;
-- the stealing flags and the training sequence lie between these and the other 57 (GSM 05.02 section 5.2.3)
unfoldable pub position_in_four_bursts : (coded_bit : ℕ) → ℕ
position_in_four_bursts k = 148 * burst_of_bit k + position_in_burst k + (if nat_le (position_in_burst k) 56 then 3 else 31)
