use Rattle.std.{proofs.Common.{◌≡◌, ℕ, ◌<◌, length, get_or, pos, w8}, specs.Int.cast_signed}
use Rattle.interleave.proofs.gathering.soft_bits_as_octets.Given as goal

abbrev pub invariant-loop-j : goal.invariant-loop-j
invariant-loop-j l =
    (length l.octets ≡ 114) × ((k : ℕ) → k < l.j → cast_signed w8 (get_or l.octets k 0) ≡ get_or l.part k (pos 0))
