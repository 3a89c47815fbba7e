use Rattle.{std.proofs.Common.refl, um_lines.{proofs.FormLaws.one_meaning, specs.{Forms.never_misplaced, LinkForms.link_line_forms}}}
use Rattle.um_lines.proofs.laws.law_link_line_syntax_is_unambiguous.Goals as goal

pub returns : goal.returns
returns c = λ line. one_meaning link_line_forms never_misplaced line refl
