use Rattle.std.proofs.Common.{get_or, length, pos, ℕ, ◌<◌, ◌≡◌}
use Rattle.um_cipher.specs.Ciphers.{ciphered_soft_bit}
use Rattle.bit_blocks.specs.SoftValues.{IsSoftBit}
use Rattle.um_cipher.proofs.ciphering.cipher_soft_bits.Given as goal

abbrev pub invariant-loop-place : goal.invariant-loop-place
invariant-loop-place l =
    (length l.ciphered ≡ 148)
    × ((k : ℕ) → k < l.place → get_or l.ciphered k (pos 0) ≡ ciphered_soft_bit (get_or l.key k 0) (get_or l.burst k (pos 0)))
    × ((k : ℕ) → k < l.place → IsSoftBit (get_or l.ciphered k (pos 0)))
