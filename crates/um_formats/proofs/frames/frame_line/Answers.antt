use Rattle.{std.proofs.Common.{◌++◌, ◌∙◌, ap, arith, rules}, um_formats.proofs.FrameLines.written_text}
use Rattle.um_formats.proofs.frames.frame_line.Goals as goal

pub returns-clause-value : goal.returns-clause-value
returns-clause-value c =
    let (text, is, e) = c.push_frame.ensures.text in
    written_text _ text _ (omega arith) is (e ∙ ap (λ o. o ++ text) c.requires)
