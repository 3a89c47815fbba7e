use Rattle.{std.proofs.Common.{◌∙◌, ap, arith}, fire_code.{specs.Registers.low_bits, proofs.Lemmas.octet_before}}
use Rattle.fire_code.proofs.registers.octets_of_register.Goals as goal

pub returns : goal.returns
returns c =
    let register = c.args.register in
    octet_before register 0 32 _ _ c.register_octet.ensures
    (octet_before register 8 24 _ _ c.register_octet-2.ensures
    (octet_before register 16 16 _ _ c.register_octet-3.ensures
    (octet_before register 24 8 _ _ c.register_octet-4.ensures c.register_octet-5.ensures)))
    ∙ ap (low_bits 40) (omega arith)
