use Rattle.{
  um_margin.{proofs.Comparing.{margin_reports, one_comparison}, specs.{Comparing.ComparesWords, Margins.margin_burst_answers}},
  um_replay.proofs.Reporting.lines_are_reported,
}
use Rattle.um_margin.proofs.laws.law_margin_compares_what_was_received.Goals as goal

pub returns-clause-lines : goal.returns-clause-lines
returns-clause-lines c = lines_are_reported margin_burst_answers ComparesWords margin_reports

pub returns-clause-only : goal.returns-clause-only
returns-clause-only c = one_comparison
