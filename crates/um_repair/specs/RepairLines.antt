-- The input lines of the `repair` command (this project's own rule).
use Rattle.std.specs.Prelude.{ℕ, List, [], ◌∷◌, ◌++◌, Option, Some, None, Result}
use Rattle.um_lines.specs.bit_blocks.Octets.{bits_of}
use Rattle.um_lines.specs.declared.fault.LineFault.{LineFault}
use Rattle.um_lines.specs.Fields.{Value, NumberList}
use Rattle.um_lines.specs.Forms.{never_misplaced, line_fault}
use Rattle.um_lines.specs.Reading.{LineParsesTo, parsed_line, words_parse_result}
use Rattle.um_lines.specs.RepairForms.{RepairLineKind, WordWithCrc, repair_line_forms}
use Rattle.um_repair.specs.declared.parsing.RepairLine.{RepairLine}
use Rattle.um_repair.specs.declared.parsing.RepairLine.TheVariants.{Skip, Word}

-- the bits of the data octets, followed by the bits of the CRC octets
abbrev pub bits_of_data_and_crc : (data_octets check : List ℕ) → List ℕ
bits_of_data_and_crc data_octets check = bits_of data_octets ++ bits_of check

-- the meaning of a line of `repair` that has this form and these values
abbrev pub repair_line_of_values : (name : RepairLineKind) (values : List Value) → RepairLine
repair_line_of_values WordWithCrc (NumberList octets ∷ NumberList check ∷ []) = Word (bits_of_data_and_crc octets check)
repair_line_of_values name values = Skip

abbrev pub repair_line_of_meaning : Option (RepairLineKind × List Value) → RepairLine
repair_line_of_meaning None = Skip
repair_line_of_meaning (Some meaning) = repair_line_of_values meaning.0 meaning.1

-- the first fault of a line of `repair`, or `None`
abbrev pub repair_line_fault : (line : List ℕ) → Option LineFault
repair_line_fault line = line_fault repair_line_forms never_misplaced line

-- a line of the `repair` command has the given meaning
abbrev pub RepairLineMeans : (line : List ℕ) (meaning : RepairLine) → Type 0
RepairLineMeans line = LineParsesTo repair_line_forms never_misplaced repair_line_of_meaning line

-- the result of parsing the words of a line of `repair` (used only inside the parser)
abbrev pub repair_parse_result : (words : List (List ℕ)) → Result RepairLine LineFault
repair_parse_result words = words_parse_result repair_line_forms never_misplaced repair_line_of_meaning words

-- the meaning of a line of `repair`, or the reason why it is refused
unfoldable pub repair_line : (line : List ℕ) → Result RepairLine LineFault
repair_line line = parsed_line repair_line_forms never_misplaced repair_line_of_meaning line
