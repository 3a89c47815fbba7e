use Rattle.um_formats.proofs.{BurstLines.{skipped_burst_line, skipped_code_line}, FrameLines.skipped_show_line}
use Rattle.um_formats.proofs.laws.law_lines_with_a_form_are_not_skipped.Goals as goal

pub returns-clause-burst : goal.returns-clause-burst
returns-clause-burst c = skipped_burst_line

pub returns-clause-code : goal.returns-clause-code
returns-clause-code c = skipped_code_line

pub returns-clause-show : goal.returns-clause-show
returns-clause-show c = skipped_show_line
