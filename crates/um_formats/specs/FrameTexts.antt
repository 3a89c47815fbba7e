-- How frames are written as lines (this project's own rule).
use Rattle.std.specs.Prelude.{ℕ, ◌≡◌, List, [], ◌∷◌, ◌++◌, codes, ◌⊎◌, Result, Ok, Err}
use Rattle.um_lines.specs.Hex.{encode_lower}
use Rattle.lapdm_frame.specs.declared.Channel.TheVariants.{Sdcch}
use Rattle.lapdm_frame.specs.declared.Refusal.{Refusal}
use Rattle.lapdm_frame.specs.declared.Refusal.TheVariants.{Lpd, Ea, Control, El, Length, Empty, More}
use Rattle.lapdm_frame.specs.Content.{Fields, Frame, fields_of_content}
use Rattle.lapdm_frame.specs.Frames.{bit_of_bool, IsFrameCoding}
use Rattle.lapdm_frame.specs.Computed.{frame_reading}
use Rattle.lapdm_frame.specs.Refusals.{IsRefused}
use Rattle.um_lines.specs.Fields.{Value, Number, NumberList}
use Rattle.um_lines.specs.ShowForms.{FrameFormat, NumberedInfo, Supervisory, WithInfo, WithoutInfo, FrameLineSyntax, syntax, frame_fields}
use Rattle.um_lines.specs.LineTexts.{line_of_values}

-- the values of the fields that follow the word that names the frame kind
abbrev pub line_values_of_fields : FrameFormat → Fields → List Value
line_values_of_fields NumberedInfo f =
    Number f.ns ∷ Number f.nr ∷ Number (bit_of_bool f.pf) ∷ Number (bit_of_bool f.more) ∷ NumberList f.info ∷ []
line_values_of_fields Supervisory f = Number f.nr ∷ Number (bit_of_bool f.pf) ∷ []
line_values_of_fields (WithInfo name) f = Number (bit_of_bool f.pf) ∷ NumberList f.info ∷ []
line_values_of_fields (WithoutInfo name) f = Number (bit_of_bool f.pf) ∷ []

-- the word that names the kind of this frame, and the format of the fields that follow it
abbrev pub line_syntax_of_frame : Frame → FrameLineSyntax
line_syntax_of_frame f = syntax (fields_of_content f.content).kind

-- the values of all fields in the text line of a frame
abbrev pub frame_values : Frame → List Value
frame_values f = Number f.sapi ∷ Number (bit_of_bool f.cr) ∷ line_values_of_fields (line_syntax_of_frame f).shape
    (fields_of_content f.content)

-- the text line of a frame: the line form of its kind, filled with the values of the frame
abbrev pub frame_text : Frame → List ℕ
frame_text f = line_of_values (frame_fields (line_syntax_of_frame f)) (frame_values f) ++ codes "\n"

-- the word that gives the reason why octets are not a valid frame
abbrev pub refusal_word : Refusal → List ℕ
refusal_word Lpd = codes "lpd"
refusal_word Ea = codes "ea"
refusal_word Control = codes "control"
refusal_word El = codes "el"
refusal_word Length = codes "length"
refusal_word Empty = codes "empty"
refusal_word More = codes "more"

-- the line `unread REASON` for octets that are not a valid frame
abbrev pub unreadable_frame_text : Refusal → List ℕ
unreadable_frame_text reason = codes "unread " ++ refusal_word reason ++ codes "\n"

-- the text for the 23 octets of an SDCCH block: the line of the frame in it, or the line `unread REASON` if it does not hold a valid frame
abbrev pub IsTextOfOctets : (octets text : List ℕ) → Type 0
IsTextOfOctets octets text =
    ((f : Frame) × IsFrameCoding Sdcch f octets × (text ≡ frame_text f))
    ⊎ ((reason : Refusal) × IsRefused Sdcch octets reason × (text ≡ unreadable_frame_text reason))

-- the text of the frame read, or of the reason why there is none
abbrev pub text_of_reading : Result Frame Refusal → List ℕ
text_of_reading (Ok f) = frame_text f
text_of_reading (Err reason) = unreadable_frame_text reason

-- the text for the 23 octets of an SDCCH block, computed; `IsTextOfOctets` is its law
unfoldable pub text_of_octets : (octets : List ℕ) → List ℕ
text_of_octets octets = text_of_reading (frame_reading Sdcch octets)

-- the line `octets HEX46` for 23 octets
abbrev pub octets_text : (octets : List ℕ) → List ℕ
octets_text octets = codes "octets " ++ encode_lower octets ++ codes "\n"
