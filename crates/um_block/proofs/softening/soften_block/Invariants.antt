use Rattle.{std.proofs.Common.{◌≡◌, ℕ, ◌<◌, length, get_or, []}, um_block.specs.Received.soft_bits}
use Rattle.um_block.proofs.softening.soften_block.Given as goal

abbrev pub invariant-loop-b : goal.invariant-loop-b
invariant-loop-b l = (length l.soft ≡ 4) × ((k : ℕ) → k < l.b → get_or l.soft k [] ≡ soft_bits (get_or l.block k []))
