use Rattle.{half_bursts.specs.Halves.stolen_burst, std.proofs.Common.{◌≡◌, ℕ, [], ◌<◌, ◌≤◌, length, get_or}}
use Rattle.half_bursts.proofs.stealing.steal.Given as goal

abbrev pub invariant-loop-index : goal.invariant-loop-index
invariant-loop-index l =
    (length l.bursts ≡ length l.fn.bursts)
    × ((k : ℕ) → k < l.index → get_or l.bursts k [] ≡ stolen_burst l.block l.fn.bursts k)
    × ((k : ℕ) → l.index ≤ k → get_or l.bursts k [] ≡ get_or l.fn.bursts k [])
    × ((k : ℕ) → k < l.index → length (get_or l.block k []) ≡ 148)

abbrev pub invariant-loop-index-2 : goal.invariant-loop-index-2
invariant-loop-index-2 l =
    (length l.bursts ≡ length l.fn.bursts)
    × ((k : ℕ) → k < l.index → get_or l.bursts k [] ≡ stolen_burst l.block l.fn.bursts k)
    × ((k : ℕ) → l.index ≤ k → get_or l.bursts k [] ≡ get_or l.fn.bursts k [])
    × ((k : ℕ) → k < 4 → length (get_or l.block k []) ≡ 148)
