use Rattle.{
  std.proofs.Common.{ap, ◌∙◌},
  um_block.proofs.Lemmas.{accepted_count, received_block-only},
  um_formats.{proofs.FrameLines.block_report_text-only, specs.Reports.block_report_text},
}
use Rattle.um_replay.proofs.replay.ReplayReports.block.Goals as goal

pub returns-clause-answer : goal.returns-clause-answer
returns-clause-answer c =
    let h = c.receive_block.ensures.received in
    block_report_text-only _ _ (accepted_count _ _ h) c.block_report.ensures.report ∙ ap block_report_text (received_block-only _ _ h)
