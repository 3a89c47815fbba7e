use Rattle.um_replay.proofs.Reporting.{lines_are_reported, one_report, replay_reports}
use Rattle.um_replay.specs.{Replay.replay_answers, Reporting.ReportsReception}
use Rattle.um_replay.proofs.laws.law_replay_reports_what_was_received.Goals as goal

pub returns-clause-lines : goal.returns-clause-lines
returns-clause-lines c = lines_are_reported replay_answers ReportsReception replay_reports

pub returns-clause-only : goal.returns-clause-only
returns-clause-only c = one_report
