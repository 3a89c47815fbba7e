use Rattle.{
  std.proofs.Common.{ap, sym, ◌∙◌},
  bit_blocks.{specs.Octets.bits_of, proofs.Lemmas.{bits_of-octets_of, octets_of-packing}},
  fire_code.proofs.Lemmas.octet_bits-low_bits,
}
use Rattle.fire_code.proofs.registers.pack_eight_bits.Goals as goal

pub returns-clause-value : goal.returns-clause-value
returns-clause-value c =
    rw (c.from_le_bytes-apart.ensures, ← octet_bits-low_bits)
    (ap bits_of (sym (octets_of-packing _ c.requires.count c.requires.bits)) ∙ bits_of-octets_of _ 1 c.requires.count c.requires.bits)
