use Rattle.{std.proofs.Common.refl, um_lines.{proofs.FormLaws.one_meaning, specs.{Forms.never_misplaced, ShowForms.show_line_forms}}}
use Rattle.um_lines.proofs.laws.law_show_line_syntax_is_unambiguous.Goals as goal

pub returns : goal.returns
returns c = λ line. one_meaning show_line_forms never_misplaced line refl
