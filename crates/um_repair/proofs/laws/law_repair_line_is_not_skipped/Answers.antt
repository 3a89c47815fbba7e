use Rattle.um_repair.proofs.Lemmas.{skipped_line}
use Rattle.um_repair.proofs.laws.law_repair_line_is_not_skipped.Goals as goal

pub returns : goal.returns
returns c = skipped_line
