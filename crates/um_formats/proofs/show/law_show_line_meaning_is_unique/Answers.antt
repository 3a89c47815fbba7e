use Rattle.um_formats.proofs.FrameLines.{one_show_meaning}
use Rattle.um_formats.proofs.show.law_show_line_meaning_is_unique.Goals as goal

pub returns : goal.returns
returns c = one_show_meaning
