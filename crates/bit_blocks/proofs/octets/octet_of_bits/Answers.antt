use Rattle.bit_blocks.proofs.Lemmas.{octets_of-packing}
use Rattle.bit_blocks.proofs.octets.octet_of_bits.Goals as goal

pub returns : goal.returns
returns c =
    cc (octets_of-packing c.args.bits.now c.requires.count c.requires.bits, c.from_le_bytes-apart.ensures)
