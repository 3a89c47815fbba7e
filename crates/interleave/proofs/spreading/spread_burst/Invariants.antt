use Rattle.std.proofs.Common.{◌≡◌, ℕ, ◌<◌, get_or}
use Rattle.interleave.proofs.spreading.spread_burst.Given as goal

-- each position written so far holds the coded bit whose number the table gives
abbrev pub invariant-loop-i : goal.invariant-loop-i
invariant-loop-i l = (j : ℕ) → j < l.i → get_or l.out j 0 ≡ get_or l.coded (get_or l.k-items j 0) 0
