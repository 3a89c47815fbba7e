use Rattle.std.proofs.Common.{◌≡◌, ℕ, ◌-◌, ◌/◌, ◌%◌, ◌^◌, ◌<◌, get_or}
use Rattle.trellis_decode.proofs.exhaustive.write_bits_and_zero_tail.Given as goal

-- the bits written so far are those of the number, most significant bit first
abbrev pub invariant-loop-k : goal.invariant-loop-k
invariant-loop-k l = (j : ℕ) → j < l.k → get_or l.u j 0 ≡ l.spelled / 2 ^ (l.last - j) % 2
