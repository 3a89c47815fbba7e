use Rattle.um_formats.proofs.BurstLines.{one_burst_meaning}
use Rattle.um_formats.proofs.burst_lines.law_burst_line_meaning_is_unique.Goals as goal

pub returns : goal.returns
returns c = one_burst_meaning
