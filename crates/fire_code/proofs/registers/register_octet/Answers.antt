use Rattle.{std.proofs.Common.◌∙◌, fire_code.proofs.Lemmas.{lowest_octet, octet_bits-low_bits}}
use Rattle.fire_code.proofs.registers.register_octet.Goals as goal

pub returns : goal.returns
returns c = octet_bits-low_bits _ ∙ lowest_octet _
