use Rattle.um_end.proofs.EndLineLaws.{call_of_line, skipped_end_line}
use Rattle.um_end.proofs.lines.law_end_line_is_not_skipped.Goals as goal

pub returns-clause-skipped : goal.returns-clause-skipped
returns-clause-skipped c = skipped_end_line

pub returns-clause-calls : goal.returns-clause-calls
returns-clause-calls c = call_of_line
