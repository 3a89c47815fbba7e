use Rattle.std.{proofs.Common.{◌≡◌, ◌⊎◌, ℕ, ◌+◌, ◌<◌, ◌≤◌, length, get_or, pos, w8}, specs.Int.cast_signed}
use Rattle.interleave.proofs.gathering.write_column.Given as goal

-- the first r soft bits of the column are written; all soft bits outside the column are unchanged
abbrev pub invariant-loop-r : goal.invariant-loop-r
invariant-loop-r l =
    (length l.soft ≡ 456) × ((i : ℕ) → i < l.r → get_or l.soft (l.first + i) (pos 0) ≡ cast_signed w8 (get_or l.octets i 0))
    × ((k : ℕ) → (k < l.first) ⊎ (l.first + 8 ≤ k) → get_or l.soft k (pos 0) ≡ get_or l.initial.soft k (pos 0))
