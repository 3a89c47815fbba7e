use Rattle.{
  std.proofs.{Common.{Err, Ok, ap, ◌∙◌, arith}, lemmas.Bool.Decides.nat_tests},
  um_end.{specs.EndLines.call_line_fault_inside_block, proofs.EndLineLaws.{call_parsed, call_refused}},
  um_link.specs.Naming.spec_role_of,
  um_lines.specs.Words.words,
  um_script.specs.Naming.event_or_fault,
}
use Rattle.um_end.proofs.lines.parse_call_line.Goals as goal

pub returns-then-held-gt0 : goal.returns-then-held-gt0
returns-then-held-gt0 c =
    call_refused (spec_role_of c.args.side) c.args.held (words c.args.line.now) c.requires.own (grind (arith, nat_tests)) _
    c.parse_script_words-read.ensures.read _ (c.call_line_fault_in_block.ensures ∙ ap call_line_fault_inside_block c.err.ensures.value)

pub returns-in-Ok : goal.returns-in-Ok
returns-in-Ok c =
    call_parsed (spec_role_of c.args.side) c.args.held (words c.args.line.now) c.requires.own (grind (arith, nat_tests))
    (event_or_fault (Ok c.in-Ok.event)) c.in-Ok.ensures.read

pub returns-in-Err : goal.returns-in-Err
returns-in-Err c =
    call_parsed (spec_role_of c.args.side) c.args.held (words c.args.line.now) c.requires.own (grind (arith, nat_tests))
    (event_or_fault (Err c.in-Err.fault)) c.in-Err.ensures.read
