use Rattle.{std.proofs.Common.{◌<◌, ap, ◌∙◌, arith}, bit_blocks.{specs.Octets.octet_bits, proofs.Lemmas.unpacked_bits}}
use Rattle.bit_blocks.proofs.octets.bits_of_octet.Goals as goal

pub returns : goal.returns
returns c =
    let within : c.from.result < 256 = omega (arith, c.from.ensures) in
    c.to_le_bytes.ensures ∙ unpacked_bits c.from.result within ∙ ap octet_bits c.from.ensures
