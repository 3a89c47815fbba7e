-- The 456 coded bits, arranged in 57 columns of eight: bit `r` of column `q` is coded bit `8 * (8 * q mod 57) + r`. Row `r` consists of the
-- coded bits `k` with `k mod 8 = r`. It fills every other position of one burst, one column after another, because coded bit `k` has
-- position `2 * (49 * k mod 57) + r div 4`, and `49 * 8 * 8 mod 57 = 1`.
use Rattle.std.specs.Prelude.{ℕ, ◌+◌, ◌*◌, ◌/◌, ◌%◌}

-- the number of the coded bit in a given column and row
unfoldable pub coded_bit_number_in_column : (column row : ℕ) → ℕ
coded_bit_number_in_column q r = 8 * (8 * q % 57) + r

-- the position in its burst of the coded bit in a given column and row; the number of the burst is the row modulo 4
unfoldable pub burst_position_of_column_bit : (column row : ℕ) → ℕ
burst_position_of_column_bit q r = 2 * ((q + 49 * r) % 57) + r / 4

-- the number of the coded bit at a given position of a given burst. In burst `b`, row `b` fills the even positions and row `b + 4` the odd
-- ones; row `r` begins with column `8 * r`
unfoldable pub coded_bit_number_in_burst : (burst place : ℕ) → ℕ
coded_bit_number_in_burst b j = let row = b + 4 * (j % 2) in coded_bit_number_in_column (8 * row + j / 2) row
