use Rattle.{std.proofs.Common.{◌≡◌, ℕ, ◌<◌, length, get_or, pos, ◌+ℤ◌, All}, training_seq.specs.Ranges.IsMagnitudeWithin}
use Rattle.training_seq.proofs.choice.add_midambles.Given as goal

abbrev pub invariant-loop-i : goal.invariant-loop-i
invariant-loop-i l =
    (length l.sums ≡ 26)
    × ((k : ℕ) → k < l.i → get_or l.sums k (pos 0) ≡
    ((get_or l.a k (pos 0) +ℤ get_or l.b k (pos 0)) +ℤ get_or l.c k (pos 0)) +ℤ get_or l.d k (pos 0))
    × All (IsMagnitudeWithin 512) l.sums
