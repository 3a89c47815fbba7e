-- The frame in 23 octets, or the first reason why they are refused, computed from them (`IsOnlyReading` is the law).
use Rattle.std.specs.Prelude.{ℕ, ◌/◌, ◌%◌, Bool, true, false, not, ◌&&◌, ◌||◌, List, [], ◌∷◌, Option, Some, None}
use Rattle.std.specs.Prelude.{Result, Ok, Err}
use Rattle.std.specs.Prelude.{nat_eq, nat_lt, if◌then◌else◌}
use Rattle.lapdm_frame.specs.declared.Channel.{Channel}
use Rattle.lapdm_frame.specs.declared.Kind.{Kind}
use Rattle.lapdm_frame.specs.declared.Kind.TheVariants as K
use Rattle.lapdm_frame.specs.declared.Refusal.{Refusal}
use Rattle.lapdm_frame.specs.declared.Refusal.TheVariants.{Lpd, Ea, Control, El, Length, Empty, More}
use Rattle.lapdm_frame.specs.Layout.{n201, address_in_block, control_in_block, length_in_block, information_in_block}
use Rattle.lapdm_frame.specs.Content.{Content, Frame, all_frame_kinds, content_with_fields}
use Rattle.lapdm_frame.specs.Frames.{control_octet}
use Rattle.lapdm_frame.specs.Refusals.{lacks_information, length_field, m_bit, el_bit}

abbrev pub is_one : ℕ → Bool
is_one bit = nat_eq bit 1

-- the content of a frame of this kind with N(R), the P or F bit and N(S) of this control octet
abbrev pub content_with_control : (control : ℕ) (more : Bool) (info : List ℕ) (kind : Kind) → Content
content_with_control control more info kind =
    content_with_fields kind (control / 2 % 8) (control / 32 % 8) (is_one (control / 16 % 2)) more info

-- the first of these kinds whose frames can have this control octet
abbrev pub kind_of_control : (control : ℕ) (kinds : List Kind) → Option Kind
kind_of_control control [] = None
kind_of_control control (kind ∷ kinds) =
    if nat_eq control (control_octet (content_with_control control false [] kind)) then Some kind else kind_of_control control kinds

abbrev pub is_information_kind : Kind → Bool
is_information_kind K.I = true
is_information_kind other = false

-- the frame of this kind that the octets encode, or the first fault of its length octet
abbrev pub reading_of_kind : (channel : Channel) (octets : List ℕ) (kind : Kind) → Result Frame Refusal
reading_of_kind channel octets kind =
    let address = address_in_block channel octets in
    let octet = length_in_block channel octets in
    let length = length_field octet in
    if nat_eq (el_bit octet) 0 then Err El
    else if nat_lt (n201 channel) length || (nat_lt 0 length && lacks_information kind) then Err Length
    else if nat_eq length 0 && is_information_kind kind then Err Empty
    else if is_one (m_bit octet) && not (is_information_kind kind) then Err More
    else Ok (record {
      sapi = address / 4;
      cr = is_one (address / 2 % 2);
      content = content_with_control (control_in_block channel octets) (is_one (m_bit octet)) (information_in_block channel octets length)
          kind;
    })

abbrev pub reading_of_known_kind : (channel : Channel) (octets : List ℕ) (kind : Option Kind) → Result Frame Refusal
reading_of_known_kind channel octets None = Err Control
reading_of_known_kind channel octets (Some kind) = reading_of_kind channel octets kind

-- the frame in the 23 octets of a block, or the first reason why there is none
unfoldable pub frame_reading : (channel : Channel) (octets : List ℕ) → Result Frame Refusal
frame_reading channel octets =
    if nat_lt 31 (address_in_block channel octets) then Err Lpd
    else if nat_eq (address_in_block channel octets % 2) 0 then Err Ea
    else reading_of_known_kind channel octets (kind_of_control (control_in_block channel octets) all_frame_kinds)
