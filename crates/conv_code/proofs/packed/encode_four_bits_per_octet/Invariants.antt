use Rattle.{
  std.proofs.Common.{◌≡◌, ℕ, ◌*◌, ◌<◌, length, get_or},
  bit_blocks.specs.Octets.bits_of,
  conv_code.specs.CodedPairs.HoldsFourCodedPairs,
}
use Rattle.conv_code.proofs.packed.encode_four_bits_per_octet.Given as goal

abbrev pub invariant-loop-m : goal.invariant-loop-m
invariant-loop-m l = (length l.packed ≡ 64) × ((t : ℕ) → t < 2 * l.m →
    HoldsFourCodedPairs (bits_of l.shifted) (get_or l.packed t 0) t)
