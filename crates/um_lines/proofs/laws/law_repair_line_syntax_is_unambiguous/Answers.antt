use Rattle.{std.proofs.Common.refl, um_lines.{proofs.FormLaws.one_meaning, specs.{Forms.never_misplaced, RepairForms.repair_line_forms}}}
use Rattle.um_lines.proofs.laws.law_repair_line_syntax_is_unambiguous.Goals as goal

pub returns : goal.returns
returns c = λ line. one_meaning repair_line_forms never_misplaced line refl
