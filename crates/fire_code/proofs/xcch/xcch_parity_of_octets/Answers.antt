use Rattle.{
  std.proofs.Common.arith,
  bit_blocks.{specs.Octets.bits_of, proofs.Lemmas.{AllBits-bits_of, length-bits_of}},
  fire_code.proofs.Lemmas.{one_xcch_crc, xcch_of_remainder},
}
use Rattle.fire_code.proofs.xcch.xcch_parity_of_octets.Goals as goal

pub returns-clause-word : goal.returns-clause-word
returns-clause-word c =
    xcch_of_remainder (bits_of c.args.octets.now) _ (omega (arith, length-bits_of c.args.octets.now)) (AllBits-bits_of c.args.octets.now)
    c.remainder_of_octets.ensures.multiple _ c.remainder_of_octets.type_inv c.octets_of_register.ensures

pub returns-clause-only : goal.returns-clause-only
returns-clause-only c p word =
    one_xcch_crc (bits_of c.args.octets.now) p _ (omega (arith, length-bits_of c.args.octets.now)) word (returns-clause-word c)
