use Rattle.{
  std.proofs.Common.refl,
  um_lines.{specs.{LinkForms.link_line_forms, Forms.{never_misplaced, line_fault, LineMeans}}, proofs.FormLaws.{one_meaning, one_made}},
  um_script.specs.ScriptLines.event_of_script_line_meaning,
}
use Rattle.um_script.proofs.script.law_script_line_meaning_is_unique.Goals as goal

pub returns : goal.returns
returns c = λ line.
    one_made event_of_script_line_meaning (LineMeans link_line_forms never_misplaced line) (line_fault link_line_forms never_misplaced line)
    (one_meaning link_line_forms never_misplaced line refl)
