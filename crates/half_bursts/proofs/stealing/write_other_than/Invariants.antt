use Rattle.{half_bursts.specs.Halves.value_with_half, std.proofs.Common.{◌≡◌, ℕ, ◌<◌, ◌≤◌, length, get_or}}
use Rattle.half_bursts.proofs.stealing.write_other_than.Given as goal

abbrev pub invariant-loop-p : goal.invariant-loop-p
invariant-loop-p l =
    (length l.into ≡ 148)
    × ((k : ℕ) → k < l.p → get_or l.into k 0 ≡ value_with_half 0 l.half l.burst l.fn.into k)
    × ((k : ℕ) → l.p ≤ k → get_or l.into k 0 ≡ get_or l.fn.into k 0)

abbrev pub invariant-loop-p-2 : goal.invariant-loop-p-2
invariant-loop-p-2 l =
    (length l.into ≡ 148)
    × ((k : ℕ) → k < l.p → get_or l.into k 0 ≡ value_with_half 0 l.half l.burst l.fn.into k)
    × ((k : ℕ) → l.p ≤ k → get_or l.into k 0 ≡ get_or l.fn.into k 0)
