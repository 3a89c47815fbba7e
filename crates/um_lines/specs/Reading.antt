-- What a line means to a command, as a value of the command's own type (this project's own rule).
use Rattle.std.specs.Prelude.{ℕ, Bool, List, Option, Result}
use Rattle.um_lines.specs.declared.fault.LineFault.{LineFault}
use Rattle.um_lines.specs.Fields.{Value}
use Rattle.um_lines.specs.Forms.{LineForms, LineMeans, form_of_words, first_word_fault}
use Rattle.um_lines.specs.Forms.{meaning_of_words, fault_or_value, line_fault, line_meaning}
use Rattle.um_lines.specs.Meanings.{IsValueOfMeaning}

-- the line parses to the value `made`, which the function `make` computes from the meaning of the line
abbrev pub LineParsesTo : {Name A : Type 0} (table : LineForms Name) (misplaced : Name → Bool) (make : (Option (Name × List Value) →
    A)) (line : List ℕ) (made : A) → Type 0
LineParsesTo table misplaced make line = IsValueOfMeaning make (LineMeans table misplaced line)

-- the result of parsing the words of a line that is not skipped: the value, or the first fault (used only inside the parsers)
abbrev pub words_parse_result : {Name A : Type 0} (table : LineForms Name) (misplaced : Name → Bool)
    (make : (Option (Name × List Value) → A)) (words : List (List ℕ)) → Result A LineFault
words_parse_result table misplaced make words =
    fault_or_value (first_word_fault misplaced (form_of_words table words) words) (make (meaning_of_words
    (form_of_words table words) words))

-- the result of parsing a line: the value, or the first fault. `LineParsesTo` is its law
abbrev pub parsed_line : {Name A : Type 0} (table : LineForms Name) (misplaced : Name → Bool) (make : (Option (Name × List Value) → A))
    (line : List ℕ) → Result A LineFault
parsed_line table misplaced make line = fault_or_value (line_fault table misplaced line) (make (line_meaning table line))
