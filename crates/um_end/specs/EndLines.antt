-- What the lines of the `end` command mean (this project's own rule).
use Rattle.std.specs.Prelude.{ℕ, ℤ, Bool, false, ◌||◌, List, [], ◌∷◌, Option, Some, None, Result, Ok, Err, codes}
use Rattle.std.specs.Str.{bytes_eq}
use Rattle.um_link.specs.bit_blocks.SoftValues.{AllSoftBits}
use Rattle.um_link.specs.lapdm_window.Ends.{Role, Mobile, Network}
use Rattle.um_link.specs.um_air.Air.{Event}
use Rattle.um_lines.specs.declared.fault.LineFault.{LineFault}
use Rattle.um_lines.specs.declared.fault.LineFault.TheVariants as F
use Rattle.um_lines.specs.Fields.{Value}
use Rattle.um_lines.specs.Forms.{LineForms, line_fault}
use Rattle.um_lines.specs.LinkForms.{LinkLineKind, mobile_call_line_forms, network_call_line_forms, EndCommandLineKind}
use Rattle.um_lines.specs.LinkForms.{end_command_line_forms}
use Rattle.um_lines.specs.LinkForms.{is_end_command_line_out_of_order}
use Rattle.um_lines.specs.LinkForms as L
use Rattle.um_lines.specs.Reading.{LineParsesTo, parsed_line, words_parse_result}
use Rattle.um_formats.specs.declared.burst_lines.BurstLine.{BurstLine}
use Rattle.um_formats.specs.declared.burst_lines.BurstLine.TheVariants.{Normal}
use Rattle.um_formats.specs.BurstLines.{burst_line_of_values}
use Rattle.um_script.specs.ScriptLines.{event_of_values}
use Rattle.um_link.specs.Naming.{spec_event_of}
use Rattle.um_end.specs.Terminals.{IsCallOfRole}
use Rattle.um_end.specs.declared.lines.EndCommandLine.{EndCommandLine}
use Rattle.um_end.specs.declared.lines.EndCommandLine.TheVariants as V

-- the meaning of a line of the `end` command: nothing if it is skipped, one burst of a block, or a layer 3 call
pub data EndCommandLineMeaning : Type 0 where
  Nothing : EndCommandLineMeaning
  TakesBurst : List ℤ → EndCommandLineMeaning
  Calls : Event → EndCommandLineMeaning

-- the forms of the call lines that this side accepts
abbrev pub call_line_forms : Role → LineForms LinkLineKind
call_line_forms Mobile = mobile_call_line_forms
call_line_forms Network = network_call_line_forms

-- the meaning of a burst line: a normal burst is received, any other line has no effect
abbrev pub meaning_of_burst_line : BurstLine → EndCommandLineMeaning
meaning_of_burst_line (Normal soft) = TakesBurst soft
meaning_of_burst_line line = Nothing

-- the meaning of a line with this form and these values
abbrev pub meaning_of_kind_and_values : (kind : EndCommandLineKind) (values : List Value) → EndCommandLineMeaning
meaning_of_kind_and_values (L.Burst name) values = meaning_of_burst_line (burst_line_of_values name values)
meaning_of_kind_and_values (L.Call name) values = Calls (event_of_values name values)

-- the meaning of a line that was parsed into a form and values; `None` is a skipped line
abbrev pub meaning_of_end_command_line : Option (EndCommandLineKind × List Value) → EndCommandLineMeaning
meaning_of_end_command_line None = Nothing
meaning_of_end_command_line (Some said) = meaning_of_kind_and_values said.0 said.1

-- the first reason for refusing a line that follows `held_burst_count` bursts of an unfinished block, or `None` if it is accepted
abbrev pub end_command_line_fault : (role : Role) (held_burst_count : ℕ) (line : List ℕ) → Option LineFault
end_command_line_fault role held line =
    line_fault (end_command_line_forms (call_line_forms role)) (is_end_command_line_out_of_order held) line

-- a line that follows `held_burst_count` bursts of an unfinished block is accepted with this meaning
abbrev pub EndCommandLineMeans : (role : Role) (held_burst_count : ℕ) (line : List ℕ) (meaning : EndCommandLineMeaning) → Type 0
EndCommandLineMeans role held line =
    LineParsesTo (end_command_line_forms (call_line_forms role)) (is_end_command_line_out_of_order held) meaning_of_end_command_line line

-- the meaning of a line that follows `held_burst_count` bursts of an unfinished block, or the first reason why it is refused
unfoldable pub end_command_line : (role : Role) (held_burst_count : ℕ) (line : List ℕ) → Result EndCommandLineMeaning LineFault
end_command_line role held line =
    parsed_line (end_command_line_forms (call_line_forms role)) (is_end_command_line_out_of_order held) meaning_of_end_command_line line

-- the meaning of a line that the parser returned as an `EndCommandLine`
abbrev pub meaning_of_parsed_line : EndCommandLine → EndCommandLineMeaning
meaning_of_parsed_line V.Skip = Nothing
meaning_of_parsed_line (V.Burst soft) = TakesBurst soft
meaning_of_parsed_line (V.Ask event) = Calls (spec_event_of event)

-- a terminal of this side can carry out the line: no soft value is -128, and a call is addressed to this side
abbrev pub TerminalCanCarryOutLine : (role : Role) (line : EndCommandLine) → Type 0
TerminalCanCarryOutLine role V.Skip = Unit {0}
TerminalCanCarryOutLine role (V.Burst soft) = AllSoftBits soft
TerminalCanCarryOutLine role (V.Ask event) = IsCallOfRole role (spec_event_of event)

-- ---- internal definitions

-- the result of parsing the words of a line (used only inside the parser)
abbrev pub end_parse_result : (role : Role) (held_burst_count : ℕ) (words : List (List ℕ)) → Result EndCommandLineMeaning LineFault
end_parse_result role held words =
    words_parse_result (end_command_line_forms (call_line_forms role)) (is_end_command_line_out_of_order held) meaning_of_end_command_line
    words

abbrev pub meaning_of_parse_result : Result EndCommandLine LineFault → Result EndCommandLineMeaning LineFault
meaning_of_parse_result (Ok line) = Ok (meaning_of_parsed_line line)
meaning_of_parse_result (Err fault) = Err fault

-- whether the first word of a line is the name of an endpoint of this side
abbrev pub names_endpoint_of_side : (role : Role) (words : List (List ℕ)) → Bool
names_endpoint_of_side role [] = false
names_endpoint_of_side Mobile (name ∷ words) = bytes_eq name (codes "mob") || bytes_eq name (codes "mob3")
names_endpoint_of_side Network (name ∷ words) = bytes_eq name (codes "net") || bytes_eq name (codes "net3")

-- the fault of a call line inside a block, given its fault outside: `Word` stays `Word`, and any other line, valid or not, has the fault
-- `Order`
abbrev pub call_line_fault_inside_block : Option LineFault → Option LineFault
call_line_fault_inside_block (Some F.Word) = Some F.Word
call_line_fault_inside_block fault = Some F.Order

-- converts the fault of a burst line inside a block in `replay` to its fault in `end`: `Order` becomes `Word`
abbrev pub burst_line_fault_in_end_command : Option LineFault → Option LineFault
burst_line_fault_in_end_command (Some F.Order) = Some F.Word
burst_line_fault_in_end_command fault = fault
