use Rattle.std.proofs.Common.{get_or, length, ℕ, ◌<◌, ◌≡◌}
use Rattle.um_cipher.specs.Ciphers.{ciphered_bit}
use Rattle.bit_blocks.specs.Bits.{IsBit}
use Rattle.um_cipher.proofs.ciphering.cipher_bits.Given as goal

abbrev pub invariant-loop-place : goal.invariant-loop-place
invariant-loop-place l =
    (length l.ciphered ≡ 148)
    × ((k : ℕ) → k < l.place → get_or l.ciphered k 0 ≡ ciphered_bit (get_or l.key k 0) (get_or l.burst k 0))
    × ((k : ℕ) → k < l.place → IsBit (get_or l.ciphered k 0))
