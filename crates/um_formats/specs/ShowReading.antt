-- Definitions that only the parser and the writer of frame lines use.
use Rattle.std.specs.Prelude.{ℕ, ◌+◌, ◌%◌, ◌==◌, ◌&&◌, ◌||◌, ◌∷◌}
use Rattle.std.specs.Prelude.{Bool, false, not, List, [], length, Option, codes}
use Rattle.std.specs.Cmp.Lexicographic.{pointwise}
use Rattle.std.specs.Str.{bytes_eq}
use Rattle.um_lines.specs.declared.fault.LineFault.{LineFault}
use Rattle.um_lines.specs.Fields.{LineField, fits_field}
use Rattle.um_lines.specs.Forms.{never_misplaced, form_of_words, first_word_fault}
use Rattle.um_lines.specs.ShowForms.{syntax, show_line_forms}
use Rattle.um_lines.specs.ShowForms as F
use Rattle.um_formats.specs.declared.frame_words.FrameFieldWords.{FrameFieldWords}
use Rattle.um_formats.specs.declared.frame_words.FrameWords.{FrameWords}
use Rattle.um_formats.specs.declared.frame_words.FrameFormat.{FrameFormat}
use Rattle.um_formats.specs.declared.frame_words.FrameFormat.TheVariants.{NumberedInfo, Supervisory, WithInfo, WithoutInfo}

-- the frame format in the specification that a Rust `FrameFormat` represents
abbrev pub spec_frame_format_of : FrameFormat → F.FrameFormat
spec_frame_format_of NumberedInfo = F.NumberedInfo
spec_frame_format_of Supervisory = F.Supervisory
spec_frame_format_of (WithInfo name) = F.WithInfo name.now
spec_frame_format_of (WithoutInfo name) = F.WithoutInfo name.now

-- the name of the poll or final bit, `p` or `f`, that a frame format holds; empty if the format holds no name
abbrev pub pf_bit_name : F.FrameFormat → List ℕ
pf_bit_name (F.WithInfo name) = name
pf_bit_name (F.WithoutInfo name) = name
pf_bit_name other = []

-- the word that writes a number from 0 to 9 as a decimal digit
abbrev pub digit : (number : ℕ) → List ℕ
digit number = (48 + number) ∷ []

-- whether the words fit these fields: there is one word for each field, and each field allows its word (`fits_field`)
abbrev pub words_fit_fields : (words : List (List ℕ)) (fields : List LineField) → Bool
words_fit_fields words fields = pointwise fits_field fields words

-- why the words of a line of `show` are refused: the first fault, or `None`
abbrev pub first_fault_of_show_words : (words : List (List ℕ)) → Option LineFault
first_fault_of_show_words words = first_word_fault never_misplaced (form_of_words show_line_forms words) words

-- whether the words begin with this name and a value, followed by at least one more word
abbrev pub begins_with_name_and_value : (name : List ℕ) (words : List (List ℕ)) → Bool
begins_with_name_and_value name [] = false
begins_with_name_and_value name (word ∷ []) = false
begins_with_name_and_value name (word ∷ value ∷ []) = false
begins_with_name_and_value name (word ∷ value ∷ other ∷ rest) = bytes_eq word name

-- whether the words are exactly this name and one value
abbrev pub is_name_and_value : (name : List ℕ) (words : List (List ℕ)) → Bool
is_name_and_value name [] = false
is_name_and_value name (word ∷ []) = false
is_name_and_value name (word ∷ value ∷ []) = bytes_eq word name
is_name_and_value name (word ∷ value ∷ other ∷ rest) = false

-- the words of all fields in this frame format: each name, followed by its value
abbrev pub field_words : F.FrameFormat → FrameFieldWords → List (List ℕ)
field_words F.NumberedInfo w =
    codes "ns" ∷ w.ns.now ∷ codes "nr" ∷ w.nr.now ∷ codes "p" ∷ w.pf.now ∷ codes "m" ∷ w.more.now ∷ codes "info"
    ∷ w.info.now ∷ []
field_words F.Supervisory w = codes "nr" ∷ w.nr.now ∷ codes "pf" ∷ w.pf.now ∷ []
field_words (F.WithInfo name) w = name ∷ w.pf.now ∷ codes "info" ∷ w.info.now ∷ []
field_words (F.WithoutInfo name) w = name ∷ w.pf.now ∷ []

-- all words of the text line of a frame, in order
abbrev pub frame_line_words : FrameWords → List (List ℕ)
frame_line_words w =
    codes "frame" ∷ codes "sapi" ∷ w.sapi.now ∷ codes "cr" ∷ w.cr.now ∷ (syntax w.kind).word
    ∷ field_words (syntax w.kind).shape w.fields

-- the word for the information field, or `-` if the frame format has no information field
abbrev pub info_word : F.FrameFormat → FrameFieldWords → List ℕ
info_word F.NumberedInfo w = w.info.now
info_word (F.WithInfo name) w = w.info.now
info_word other w = codes "-"

-- the minimum number of octets of information that a frame format allows
abbrev pub min_info_octets : F.FrameFormat → ℕ
min_info_octets F.NumberedInfo = 1
min_info_octets other = 0

-- whether a word is `-` or has an even number of digits, at least two
abbrev pub has_octets_word_length : (word : List ℕ) → Bool
has_octets_word_length word = not (length word == 0) && (bytes_eq word (codes "-") || length word % 2 == 0)
