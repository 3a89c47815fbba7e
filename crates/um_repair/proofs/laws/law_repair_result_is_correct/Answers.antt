use Rattle.um_repair.proofs.{Lemmas.{answer_reports, one_meaning, repair_result-only}, Searching.IsRepairResult-repair_result}
use Rattle.um_repair.proofs.laws.law_repair_result_is_correct.Goals as goal

pub returns : goal.returns
returns c =
    record { result = IsRepairResult-repair_result; only = repair_result-only; answer = answer_reports; lines = one_meaning }
