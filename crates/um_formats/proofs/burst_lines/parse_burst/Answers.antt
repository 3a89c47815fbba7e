use Rattle.{
  std.proofs.Common.{Ok, false},
  um_formats.specs.BurstLines.burst_line_of_meaning,
  um_lines.{proofs.FormLaws.parsed_by_words, specs.BurstForms.{burst_line_forms, is_burst_out_of_order}},
}
use Rattle.um_formats.proofs.burst_lines.parse_burst.Goals as goal

pub returns : goal.returns
returns c =
    let all = parsed_by_words burst_line_forms (is_burst_out_of_order c.args.held) burst_line_of_meaning _ (Ok false) _
    (rw c.if-branch.false at c.in_ok-skips_line.ensures.value) c.parse_burst_words.ensures in
    record { means = all.0.0; refused = all.0.1 }
