use Rattle.{
  std.proofs.Common.{◌≡◌, ℕ, ◌<◌, [], length, get_or, All},
  interleave.specs.Positions.{burst_of_bit, position_in_burst},
}
use Rattle.interleave.proofs.spreading.spread.Given as goal

-- the bursts written so far hold their coded bits
abbrev pub invariant-loop-b : goal.invariant-loop-b
invariant-loop-b l =
    (length l.bursts ≡ 4) × All (λ burst. length burst ≡ 114) l.bursts
    × ((k : ℕ) → k < 456 → burst_of_bit k < l.b → get_or (get_or l.bursts (burst_of_bit k) []) (position_in_burst k) 0 ≡
    get_or l.coded k 0)
