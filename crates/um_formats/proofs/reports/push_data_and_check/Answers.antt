use Rattle.{
  std.proofs.{Common.arith, lemmas.List.Elements.All-from_get_or},
  um_block.{specs.bit_blocks.Octets.IsOctet, proofs.bit_blocks.Lemmas.octets_of-bits_of},
}
use Rattle.um_formats.proofs.reports.push_data_and_check.Goals as goal

pub returns-clause-octets : goal.returns-clause-octets
returns-clause-octets c =
    octets_of-bits_of c.args.octets.now (All-from_get_or IsOctet c.args.octets.now 0 (λ k within. omega (arith, c.type_inv.octets k)))

pub returns-clause-check : goal.returns-clause-check
returns-clause-check c =
    octets_of-bits_of c.args.check.now (All-from_get_or IsOctet c.args.check.now 0 (λ k within. omega (arith, c.type_inv.check k)))
