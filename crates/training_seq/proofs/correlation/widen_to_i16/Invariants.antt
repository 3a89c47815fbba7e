use Rattle.{std.proofs.Common.{◌≡◌, ℕ, ◌<◌, length, get_or, pos, All}, training_seq.specs.Ranges.IsMagnitudeWithin}
use Rattle.training_seq.proofs.correlation.widen_to_i16.Given as goal

abbrev pub invariant-loop-i : goal.invariant-loop-i
invariant-loop-i l =
    (length l.wide ≡ 26)
    × ((k : ℕ) → k < l.i → get_or l.wide k (pos 0) ≡ get_or l.soft k (pos 0))
    × All (IsMagnitudeWithin 1024) l.wide
