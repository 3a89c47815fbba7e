use Rattle.um_end.proofs.EndTexts.{one_answer}
use Rattle.um_end.proofs.two_ends.law_end_command_line_has_one_answer.Goals as goal

pub returns : goal.returns
returns c = one_answer
