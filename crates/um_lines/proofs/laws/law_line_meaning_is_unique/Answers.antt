use Rattle.um_lines.proofs.FormLaws.{one_meaning}
use Rattle.um_lines.proofs.laws.law_line_meaning_is_unique.Goals as goal

pub returns : goal.returns
returns g c = one_meaning
