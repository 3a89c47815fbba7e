use Rattle.{std.proofs.Common.refl, um_lines.{proofs.FormLaws.one_meaning, specs.BurstForms.burst_line_forms}}
use Rattle.um_lines.proofs.laws.law_burst_line_syntax_is_unambiguous.Goals as goal

pub returns : goal.returns
returns c = λ held line. one_meaning burst_line_forms _ line refl
