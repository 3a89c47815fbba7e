-- `replay` recovers the information given to `code` from the bursts that `code` writes (this project's own rule).
use Rattle.std.specs.Prelude.{ℕ, ◌≡◌, ◌≤◌, List, [], ◌∷◌, ◌++◌, length, Some, true}
use Rattle.um_end.specs.um_io.Lines.{IsDividedIntoLines}
use Rattle.um_end.specs.um_io.Reading.{input_limit}
use Rattle.um_end.specs.um_block.Restored.{IsErrorFreeBlock, IsErrorFreeAccess, IsErrorFreeSync}
use Rattle.um_end.specs.um_block.declared.received.Received.{Received}
use Rattle.um_end.specs.um_block.declared.received.ReceivedAccess.{ReceivedAccess}
use Rattle.um_end.specs.um_block.declared.received.ReceivedSync.{ReceivedSync}
use Rattle.um_code.specs.um_formats.declared.code.CodeLine.{CodeLine}
use Rattle.um_code.specs.um_formats.declared.code.CodeLine.TheVariants.{Skip, Block, Rach, Sch}
use Rattle.um_code.specs.um_formats.CodeLines.{CodeLineMeans}
use Rattle.um_code.specs.um_formats.Reports.{block_report_text, access_report_text, sync_report_text}
use Rattle.um_driver.specs.Outputs.{response}
use Rattle.um_driver.specs.declared.status.Status.TheVariants.{Done}
use Rattle.um_code.specs.Code.{code_command_rules}
use Rattle.um_replay.specs.Replay.{replay_rules}

-- the report of `replay` on the undamaged bursts that `code` writes for a line: the encoded information, a CRC that holds, no wrong
-- training bits, and the maximum path metric
abbrev pub IsReplayReportOfCodeLine : (line : CodeLine) (report : List ℕ) → Type 0
IsReplayReportOfCodeLine Skip report = report ≡ []
IsReplayReportOfCodeLine (Block tsc octets) report = (r : Received) × IsErrorFreeBlock octets tsc r × (report ≡ block_report_text r)
IsReplayReportOfCodeLine (Rach info bsic) report = (r : ReceivedAccess) × IsErrorFreeAccess info bsic r
    × (report ≡ access_report_text bsic r)
IsReplayReportOfCodeLine (Sch info) report = (r : ReceivedSync) × IsErrorFreeSync info r × (report ≡ sync_report_text r)

-- the concatenated reports of `replay` on the bursts that `code` writes for these lines
abbrev pub AreReplayReportsOfCodeLines : (lines : List (List ℕ)) (reports : List ℕ) → Type 0
AreReplayReportsOfCodeLines [] reports = reports ≡ []
AreReplayReportsOfCodeLines (line ∷ lines) reports =
    (meaning : CodeLine) × (report : List ℕ) × (rest : List ℕ) ×
    CodeLineMeans line meaning × IsReplayReportOfCodeLine meaning report × AreReplayReportsOfCodeLines lines rest
    × (reports ≡ report ++ rest)

-- if `code` answers all lines of `input` with `bursts`, `replay` answers `bursts` with the reports on the information in these lines
abbrev pub ReplayRecoversCodeInput : (input bursts : List ℕ) → Type 0
ReplayRecoversCodeInput input bursts =
    response code_command_rules tt input true ≡ (Some Done, bursts) → length bursts ≤ input_limit →
    (lines : List (List ℕ)) × (reports : List ℕ) × IsDividedIntoLines input lines × AreReplayReportsOfCodeLines lines reports
    × (response replay_rules [] bursts true ≡ (Some Done, reports))
