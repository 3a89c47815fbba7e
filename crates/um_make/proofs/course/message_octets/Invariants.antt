use Rattle.std.proofs.Common.{◌≡◌, ℕ, ◌+◌, ◌%◌, ◌<◌, length, get_or}
use Rattle.um_make.proofs.course.message_octets.Given as goal

abbrev pub invariant-loop-j : goal.invariant-loop-j
invariant-loop-j l = (length l.octets ≡ 251) × ((k : ℕ) → k < l.j → get_or l.octets k 0 ≡ (l.number + k) % 256)
