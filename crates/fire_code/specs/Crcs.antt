-- The check bits as functions of the information bits: the remainder of a division by the generator, inverted. A shift register divides,
-- one bit of the dividend at a time. The definition of check bits without a division is that of a codeword in `Words`;
-- `law_check_bits_make_the_codeword` says that these check bits, and no others, make one.
use Rattle.std.specs.Prelude.{ℕ, ◌/◌, ◌*◌, List, replicate, bit_xor, bit_and}
use Rattle.std.proofs.Common.{fold}
use Rattle.bit_blocks.specs.Bits.{xor_bits}
use Rattle.fire_code.specs.Registers.{low_bits}

-- the contents of the shift register after `bit` is shifted in
abbrev pub shifted : (taps register bit : ℕ) → ℕ
shifted taps register bit = bit_xor (register / 2) (bit_and (bit_xor register bit) 1 * taps)

-- the inverted remainder of the information bits; `taps` stands for the generator without its highest term
abbrev pub check_bits : (count taps : ℕ) (info : List ℕ) → List ℕ
check_bits n taps info = xor_bits (low_bits n (fold (shifted taps) 0 info)) (replicate n 1)

unfoldable pub xcch_crc : (info : List ℕ) → List ℕ
xcch_crc info = check_bits 40 618479558656 info

unfoldable pub rach_crc : (info bsic : List ℕ) → List ℕ
rach_crc info bsic = xor_bits (check_bits 6 61 info) bsic

unfoldable pub sch_crc : (info : List ℕ) → List ℕ
sch_crc info = check_bits 10 698 info
