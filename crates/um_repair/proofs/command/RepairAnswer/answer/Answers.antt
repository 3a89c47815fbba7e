use Rattle.std.proofs.Common.{ap, sym, ◌∙◌, Ok}
use Rattle.um_driver.specs.Rules.{answer_to_meaning}
use Rattle.um_repair.specs.{RepairRules.repair_answer, Texts.answer_text}
use Rattle.um_repair.proofs.Lemmas.{result_of_line}
use Rattle.um_repair.proofs.command.RepairAnswer.answer.Goals as goal

pub returns-in-Word : goal.returns-in-Word
returns-in-Word c =
    let line = c.in_ok-parse_repair_line in
    let same = result_of_line c.args.line.now c.in-Word.word _ (rw c.in-Word.is at line.ensures.means) c.repair.ensures.answer in
    ap (answer_to_meaning repair_answer) (sym line.ensures.value ∙ ap Ok c.in-Word.is)
    ∙ ap (λ result. Ok (answer_text result)) (sym same)
    ∙ ap Ok (sym c.write_answer_line.ensures.line)
