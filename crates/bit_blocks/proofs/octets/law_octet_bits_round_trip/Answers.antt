use Rattle.bit_blocks.proofs.Lemmas.{octets_of-bits_of, bits_of-octets_of}
use Rattle.bit_blocks.proofs.octets.law_octet_bits_round_trip.Goals as goal

pub returns : goal.returns
returns c = record { octets = octets_of-bits_of; bits = bits_of-octets_of }
