use Rattle.{std.proofs.Common.{◌≡◌, ℕ, ◌<◌, length, get_or}, bit_blocks.specs.Bits.{AllBits, xor_bits}}
use Rattle.bit_blocks.proofs.bits.Bits.xor.Given as goal

abbrev pub invariant-loop-i : goal.invariant-loop-i
invariant-loop-i g l =
    AllBits l.sum ×
    (length l.sum ≡ length l.self-inside.values) ×
    ((k : ℕ) → k < l.i → get_or l.sum k 0 ≡ get_or (xor_bits l.self-inside.values l.other-inside.values) k 0)
