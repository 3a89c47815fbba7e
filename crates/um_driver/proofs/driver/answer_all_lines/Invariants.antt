use Rattle.{std.proofs.Common.{[], ◌-◌, ◌≡◌}, um_driver.specs.Progress.IsRunUnderway, um_io.specs.Reading.input_limit}
use Rattle.um_driver.proofs.driver.answer_all_lines.Given as goal

abbrev pub invariant-loop-command : goal.invariant-loop-command
invariant-loop-command g l = record {
  underway : IsRunUnderway g.C.Command.rules (g.C.Command.start l.fn.command) (g.C.Command.represents l.command) l.lines
      (g.S.Source.left l.fn.input) (g.S.Source.left l.input) (g.K.Sink.taken l.fn.output) (g.K.Sink.taken l.output) l.gathered;
  empty : l.out ≡ [];
  source_kept : g.S.Source.faults l.input ≡ g.S.Source.faults l.fn.input;
  sink_kept : g.K.Sink.faults l.output ≡ g.K.Sink.faults l.fn.output;
  keeps : g.C.Command.kept l.command ≡ g.C.Command.kept l.fn.command;
}

abbrev pub decreases-loop-command : goal.decreases-loop-command
decreases-loop-command g l = input_limit - l.lines.octet_count
