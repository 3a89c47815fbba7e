use Rattle.{hex.specs.Hex.lower_digits, std.proofs.Common.{get_or, length, ℕ, ◌%◌, ◌+◌, ◌/◌, ◌<◌, ◌≡◌}}
use Rattle.um_lines.proofs.lower_digits.digits_of_sixteen.Given as goal

-- the digits written so far are those of the octets from index `at` on
abbrev pub invariant-loop-i : goal.invariant-loop-i
invariant-loop-i l =
    (length l.high ≡ 16) × (length l.low ≡ 16)
    × ((k : ℕ) → k < l.i → get_or l.high k 0 ≡ get_or lower_digits (get_or l.octets (l.at + k) 0 / 16) 0)
    × ((k : ℕ) → k < l.i → get_or l.low k 0 ≡ get_or lower_digits (get_or l.octets (l.at + k) 0 % 16) 0)
