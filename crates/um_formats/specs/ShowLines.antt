-- The meaning of the input lines of the `show` command (this project's own rule).
use Rattle.std.specs.Prelude.{ℕ, ◌==◌, Bool, false, List, [], ◌∷◌, Option, Some, None, Result}
use Rattle.lapdm_frame.specs.declared.Channel.TheVariants.{Sdcch}
use Rattle.lapdm_frame.specs.declared.Kind.{Kind}
use Rattle.lapdm_frame.specs.Content.{Content, Frame, content_with_fields}
use Rattle.lapdm_frame.specs.Frames.{octets_of}
use Rattle.um_lines.specs.declared.fault.LineFault.{LineFault}
use Rattle.um_lines.specs.Fields.{Value, Number, NumberList}
use Rattle.um_lines.specs.Forms.{never_misplaced, line_fault}
use Rattle.um_lines.specs.Reading.{LineParsesTo, parsed_line, words_parse_result}
use Rattle.um_lines.specs.ShowForms as F
use Rattle.um_lines.specs.ShowForms.{ShowLineKind, FrameFormat, NumberedInfo, Supervisory, WithInfo, WithoutInfo, syntax, show_line_forms}
use Rattle.um_formats.specs.declared.show.ShowLine.{ShowLine}
use Rattle.um_formats.specs.declared.show.ShowLine.TheVariants as S

-- whether a bit, given as the number 0 or 1, is set
abbrev pub is_bit_set : (number : ℕ) → Bool
is_bit_set number = number == 1

-- the content of a frame of this kind, from the values of the fields in this format; `None` if the values do not fit the format
abbrev pub content_from_values : (shape : FrameFormat) (kind : Kind) (values : List Value) → Option Content
content_from_values NumberedInfo kind (Number ns ∷ Number nr ∷ Number p ∷ Number m ∷ NumberList info ∷ []) =
    Some (content_with_fields kind ns nr (is_bit_set p) (is_bit_set m) info)
content_from_values Supervisory kind (Number nr ∷ Number pf ∷ []) = Some (content_with_fields kind 0 nr (is_bit_set pf) false [])
content_from_values (WithInfo name) kind (Number pf ∷ NumberList info ∷ []) =
    Some (content_with_fields kind 0 0 (is_bit_set pf) false info)
content_from_values (WithoutInfo name) kind (Number pf ∷ []) = Some (content_with_fields kind 0 0 (is_bit_set pf) false [])
content_from_values shape kind values = None

-- the frame with this SAPI, C/R bit and content; `None` if there is no content
abbrev pub frame_with_address : (sapi cr : ℕ) (content : Option Content) → Option Frame
frame_with_address sapi cr None = None
frame_with_address sapi cr (Some content) = Some (record { sapi = sapi; cr = is_bit_set cr; content = content })

-- the frame in a line of this form with these values, or `None` for any other form
abbrev pub frame_from_values : (name : ShowLineKind) (values : List Value) → Option Frame
frame_from_values (F.Frame kind) (Number sapi ∷ Number cr ∷ values) = frame_with_address sapi cr (content_from_values
    (syntax kind).shape kind values)
frame_from_values name values = None

-- the meaning of the line of a frame: the canonical coding of the frame on SDCCH
abbrev pub show_line_of_frame : Option Frame → ShowLine
show_line_of_frame None = S.Skip
show_line_of_frame (Some f) = S.Frame (octets_of Sdcch f)

-- the meaning of a line of `show` that has this form and these values
abbrev pub show_line_of_values : (name : ShowLineKind) (values : List Value) → ShowLine
show_line_of_values F.Octets (NumberList octets ∷ []) = S.Octets octets
show_line_of_values name values = show_line_of_frame (frame_from_values name values)

abbrev pub show_line_of_meaning : Option (ShowLineKind × List Value) → ShowLine
show_line_of_meaning None = S.Skip
show_line_of_meaning (Some meaning) = show_line_of_values meaning.0 meaning.1

-- why a line of `show` is refused: the first fault, or `None`
abbrev pub show_line_fault : (line : List ℕ) → Option LineFault
show_line_fault line = line_fault show_line_forms never_misplaced line

-- a line of the `show` command has the given meaning
abbrev pub ShowLineMeans : (line : List ℕ) (meaning : ShowLine) → Type 0
ShowLineMeans line = LineParsesTo show_line_forms never_misplaced show_line_of_meaning line

-- the result of parsing the words of a line of `show` (used only inside the parser)
abbrev pub show_parse_result : (words : List (List ℕ)) → Result ShowLine LineFault
show_parse_result words = words_parse_result show_line_forms never_misplaced show_line_of_meaning words

-- the meaning of a line of `show`, or the reason why it is refused
unfoldable pub show_line : (line : List ℕ) → Result ShowLine LineFault
show_line line = parsed_line show_line_forms never_misplaced show_line_of_meaning line
