use Rattle.{
  std.proofs.Common.{◌≡◌, ◌+◌, ◌*◌, ◌≤◌, ◌++◌, length, map, drop},
  um_link.specs.Naming.spec_who_of,
  um_script.specs.AnswerLines.{Reports, answer_lines_text, LinesAreInRange},
}
use Rattle.um_script.proofs.answer.push_notices.Given as goal

-- the text written so far, followed by the lines of the remaining notices, is the whole text
abbrev pub invariant-loop-notice : goal.invariant-loop-notice
invariant-loop-notice l =
    record {
      text : l.out ++ answer_lines_text (map (Reports (spec_who_of l.who) l.sapi) (drop l.notice-index l.notices))
          ≡ l.fn.out ++ answer_lines_text (map (Reports (spec_who_of l.who) l.sapi) l.notices);
      short : length l.out ≤ length l.fn.out + 520 * l.notice-index;
      fit : LinesAreInRange (map (Reports (spec_who_of l.who) l.sapi) (drop l.notice-index l.notices)) →
          LinesAreInRange (map (Reports (spec_who_of l.who) l.sapi) l.notices);
    }
