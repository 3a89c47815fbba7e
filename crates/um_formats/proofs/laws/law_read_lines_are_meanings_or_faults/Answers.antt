use Rattle.{
  std.proofs.Common.refl,
  um_lines.{proofs.FormLaws.{parsed_fault, parsed_meaning, parsed_means}, specs.BurstForms.{burst_line_forms, is_burst_out_of_order}},
  um_lines.specs.{CodeForms.code_line_forms, Forms.never_misplaced, ShowForms.show_line_forms},
  um_formats.{
    proofs.BurstLines.{burst_line_meaning, burst_line_means, code_line_means},
    specs.{BurstLines.{burst_line, burst_line_of_meaning}, CodeLines.{code_line, code_line_of_meaning}, ShowLines.show_line},
    specs.ShowLines.show_line_of_meaning,
  },
}
use Rattle.um_formats.proofs.laws.law_read_lines_are_meanings_or_faults.Goals as goal

pub returns-clause-burst : goal.returns-clause-burst
returns-clause-burst c held line meaning = (burst_line_means held line meaning, burst_line_meaning held line meaning)

pub returns-clause-burst_fault : goal.returns-clause-burst_fault
unfolding burst_line
returns-clause-burst_fault c held line fault =
    parsed_fault burst_line_forms (is_burst_out_of_order held) burst_line_of_meaning line fault

pub returns-clause-code : goal.returns-clause-code
unfolding code_line
returns-clause-code c line meaning =
    (code_line_means line meaning, parsed_meaning code_line_forms never_misplaced code_line_of_meaning line meaning refl)

pub returns-clause-code_fault : goal.returns-clause-code_fault
unfolding code_line
returns-clause-code_fault c line fault = parsed_fault code_line_forms never_misplaced code_line_of_meaning line fault

pub returns-clause-show : goal.returns-clause-show
unfolding show_line
returns-clause-show c line meaning = (
  parsed_means show_line_forms never_misplaced show_line_of_meaning line meaning,
  parsed_meaning show_line_forms never_misplaced show_line_of_meaning line meaning refl,
)

pub returns-clause-show_fault : goal.returns-clause-show_fault
unfolding show_line
returns-clause-show_fault c line fault = parsed_fault show_line_forms never_misplaced show_line_of_meaning line fault
