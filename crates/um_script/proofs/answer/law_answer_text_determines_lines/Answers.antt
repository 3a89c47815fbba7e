use Rattle.{std.proofs.Common.ap, um_script.{specs.AnswerLines.{answer_lines, answer_lines_text}, proofs.AnswerLaws.lines-unique}}
use Rattle.um_script.proofs.answer.law_answer_text_determines_lines.Goals as goal

pub returns-clause-same : goal.returns-clause-same
returns-clause-same c = λ x y. ap answer_lines_text

pub returns-clause-different : goal.returns-clause-different
returns-clause-different c = λ x y. lines-unique (answer_lines x) (answer_lines y)
