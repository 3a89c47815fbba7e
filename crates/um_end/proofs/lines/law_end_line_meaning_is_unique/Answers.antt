use Rattle.um_end.proofs.EndLineLaws.{end_one_meaning}
use Rattle.um_end.proofs.lines.law_end_line_meaning_is_unique.Goals as goal

pub returns : goal.returns
returns c = end_one_meaning
