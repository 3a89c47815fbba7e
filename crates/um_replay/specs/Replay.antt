-- How the `replay` command answers a line (this project's own rule).
use Rattle.std.specs.Prelude.{ℤ, List}
use Rattle.um_block.specs.Computed.{received_block, received_access, received_sync}
use Rattle.um_formats.specs.Reports.{block_report_text, access_report_text, sync_report_text}
use Rattle.um_driver.specs.Rules.{Rules}
use Rattle.um_replay.specs.BurstRules.{BurstAnswers, burst_rules}

-- the answer of `replay` to bursts is the report on their reception
abbrev pub replay_answers : BurstAnswers
replay_answers = record {
  block = λ bursts. block_report_text (received_block bursts);
  access = λ bsic burst. access_report_text bsic (received_access burst bsic);
  sync = λ burst. sync_report_text (received_sync burst);
}

abbrev pub replay_rules : Rules (List (List ℤ))
replay_rules = burst_rules replay_answers
