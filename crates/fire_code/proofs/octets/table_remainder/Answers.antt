use Rattle.{std.proofs.Common.arith, fire_code.proofs.Lemmas.entry_multiple}
use Rattle.fire_code.proofs.octets.table_remainder.Goals as goal

pub returns : goal.returns
returns c = assumption (entry_multiple c.args.octet (omega arith))
