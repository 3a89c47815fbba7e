use Rattle.{
  std.proofs.Common.{ap, rules, ◌∙◌},
  um_block.proofs.Lemmas.received_sync-only,
  um_formats.specs.Reports.sync_report_text,
}
use Rattle.um_replay.proofs.replay.ReplayReports.sync.Goals as goal

pub returns-clause-answer : goal.returns-clause-answer
returns-clause-answer c =
    c.sync_report.ensures.report ∙ ap sync_report_text (received_sync-only _ _ (search rules) c.receive_sync.ensures.received)
