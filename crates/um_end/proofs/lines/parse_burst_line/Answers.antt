use Rattle.{
  std.proofs.Common.{Err, Ok, ap, ◌∙◌},
  um_end.{proofs.EndLineLaws.burst_parsed, specs.EndLines.Nothing},
  um_link.specs.Naming.spec_role_of,
  um_lines.specs.{Forms.fault_or_value, Words.words},
}
use Rattle.um_end.proofs.lines.parse_burst_line.Goals as goal

pub returns-in-Ok : goal.returns-in-Ok
returns-in-Ok c =
    ap Ok c.end_command_line_of_burst_line.ensures
    ∙ burst_parsed (spec_role_of c.args.side) c.args.held_bursts (words c.args.line.now) c.requires (Ok c.in-Ok.burst) c.in-Ok.ensures

pub returns-in-Err : goal.returns-in-Err
returns-in-Err c =
    ap (λ fault. fault_or_value fault Nothing) c.end_command_fault_of_burst_line.ensures
    ∙ burst_parsed (spec_role_of c.args.side) c.args.held_bursts (words c.args.line.now) c.requires (Err c.in-Err.fault) c.in-Err.ensures
