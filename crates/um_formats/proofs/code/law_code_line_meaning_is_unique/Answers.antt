use Rattle.um_formats.proofs.BurstLines.{one_code_meaning}
use Rattle.um_formats.proofs.code.law_code_line_meaning_is_unique.Goals as goal

pub returns : goal.returns
returns c = one_code_meaning
