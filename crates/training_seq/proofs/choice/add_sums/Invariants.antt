use Rattle.{std.proofs.Common.{◌≡◌, ℕ, ◌<◌, length, get_or, pos, ◌+ℤ◌, All}, training_seq.specs.Ranges.IsMagnitudeWithin}
use Rattle.training_seq.proofs.choice.add_sums.Given as goal

abbrev pub invariant-loop-i : goal.invariant-loop-i
invariant-loop-i l =
    (length l.sums ≡ 26)
    × ((k : ℕ) → k < l.i → get_or l.sums k (pos 0) ≡ get_or l.first k (pos 0) +ℤ get_or l.later k (pos 0))
    × All (IsMagnitudeWithin 1024) l.sums
