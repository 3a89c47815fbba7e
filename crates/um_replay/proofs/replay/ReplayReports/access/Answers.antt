use Rattle.{
  std.proofs.Common.{ap, rules, ◌∙◌},
  um_block.proofs.Lemmas.received_access-only,
  um_formats.specs.Reports.access_report_text,
}
use Rattle.um_replay.proofs.replay.ReplayReports.access.Goals as goal

pub returns-clause-answer : goal.returns-clause-answer
returns-clause-answer c =
    c.access_report.ensures.report
    ∙ ap (access_report_text c.args.bsic.now)
    (received_access-only _ _ _ (search rules) (rw c.as_slice.ensures.value at c.as_slice.ensures.count)
    (rw c.as_slice.ensures.value at c.as_slice.ensures.bits) c.receive_access.ensures.received)
