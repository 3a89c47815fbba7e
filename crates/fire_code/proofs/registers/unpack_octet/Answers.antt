use Rattle.{
  std.proofs.Common.◌∙◌,
  bit_blocks.proofs.Lemmas.unpacked_bits,
  fire_code.proofs.Lemmas.{octet_bits-low_bits, AllBits-low_bits},
}
use Rattle.fire_code.proofs.registers.unpack_octet.Goals as goal

pub returns-clause-value : goal.returns-clause-value
returns-clause-value c = c.to_le_bytes.ensures ∙ unpacked_bits _ c.requires ∙ octet_bits-low_bits c.args.octet

pub returns-clause-bits : goal.returns-clause-bits
returns-clause-bits c = rw (returns-clause-value c) (AllBits-low_bits 8 c.args.octet)
