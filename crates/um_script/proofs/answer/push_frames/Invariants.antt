use Rattle.{
  std.proofs.Common.{◌≡◌, ◌+◌, ◌*◌, ◌≤◌, ◌++◌, length, map, drop},
  um_link.specs.Naming.spec_who_of,
  um_script.specs.AnswerLines.{Sends, answer_lines_text, LinesAreInRange},
}
use Rattle.um_script.proofs.answer.push_frames.Given as goal

-- the text written so far, followed by the lines of the remaining frames, is the whole text
abbrev pub invariant-loop-frame : goal.invariant-loop-frame
invariant-loop-frame l =
    record {
      text : l.out ++ answer_lines_text (map (Sends (spec_who_of l.who)) (drop l.frame-index l.frames))
          ≡ l.fn.out ++ answer_lines_text (map (Sends (spec_who_of l.who)) l.frames);
      short : length l.out ≤ length l.fn.out + 60 * l.frame-index;
      fit : LinesAreInRange (map (Sends (spec_who_of l.who)) (drop l.frame-index l.frames)) →
          LinesAreInRange (map (Sends (spec_who_of l.who)) l.frames);
    }
