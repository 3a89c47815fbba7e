-- How the `show` command answers a line (this project's own rule).
use Rattle.std.specs.Prelude.{ℕ, List, []}
use Rattle.um_formats.specs.declared.show.ShowLine.{ShowLine}
use Rattle.um_formats.specs.declared.show.ShowLine.TheVariants.{Skip, Octets, Frame}
use Rattle.um_formats.specs.ShowLines.{show_line}
use Rattle.um_formats.specs.FrameTexts.{text_of_octets, octets_text}
use Rattle.um_driver.specs.Rules.{Rules, stateless, answer_to_meaning}

-- the answer to 23 octets is the text line of the frame in them, or `unread` and the reason if they are not a valid frame; the answer to a
-- frame is its octets
abbrev pub show_answer : (line : ShowLine) → List ℕ
show_answer Skip = []
show_answer (Octets octets) = text_of_octets octets
show_answer (Frame octets) = octets_text octets

-- the rules of `show`, which keeps no state, so that its input may end after any line
abbrev pub show_command_rules : Rules (Unit {0})
show_command_rules = stateless (λ line. answer_to_meaning show_answer (show_line line))
