-- The meaning of the input lines of the `code` command (this project's own rule).
use Rattle.std.specs.Prelude.{ℕ, List, [], ◌∷◌, Option, Some, None, Result}
use Rattle.um_lines.specs.declared.fault.LineFault.{LineFault}
use Rattle.um_lines.specs.Fields.{Value, Number, NumberList}
use Rattle.um_lines.specs.Forms.{never_misplaced, line_fault}
use Rattle.um_lines.specs.Reading.{LineParsesTo, parsed_line, words_parse_result}
use Rattle.um_lines.specs.CodeForms.{CodeLineKind, Block, Rach, Sch, code_line_forms}
use Rattle.um_formats.specs.declared.code.CodeLine.{CodeLine}
use Rattle.um_formats.specs.declared.code.CodeLine.TheVariants as C

-- the meaning of a line of `code` that has this form and these values
abbrev pub code_line_of_values : (name : CodeLineKind) (values : List Value) → CodeLine
code_line_of_values Block (Number tsc ∷ NumberList octets ∷ []) = C.Block tsc octets
code_line_of_values Rach (NumberList info ∷ NumberList bsic ∷ []) = C.Rach info bsic
code_line_of_values Sch (NumberList info ∷ []) = C.Sch info
code_line_of_values name values = C.Skip

abbrev pub code_line_of_meaning : Option (CodeLineKind × List Value) → CodeLine
code_line_of_meaning None = C.Skip
code_line_of_meaning (Some meaning) = code_line_of_values meaning.0 meaning.1

-- why a line of `code` is refused: the first fault, or `None`
abbrev pub code_line_fault : (line : List ℕ) → Option LineFault
code_line_fault line = line_fault code_line_forms never_misplaced line

-- a line of the `code` command has the given meaning
abbrev pub CodeLineMeans : (line : List ℕ) (meaning : CodeLine) → Type 0
CodeLineMeans line = LineParsesTo code_line_forms never_misplaced code_line_of_meaning line

-- the result of parsing the words of a line of `code` (used only inside the parser)
abbrev pub code_parse_result : (words : List (List ℕ)) → Result CodeLine LineFault
code_parse_result words = words_parse_result code_line_forms never_misplaced code_line_of_meaning words

-- the meaning of a line of `code`, or the reason why it is refused
unfoldable pub code_line : (line : List ℕ) → Result CodeLine LineFault
code_line line = parsed_line code_line_forms never_misplaced code_line_of_meaning line
