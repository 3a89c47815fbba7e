-- The C struct of a frame: the number of its kind, and every field that a frame of any kind may have.
use Rattle.std.specs.Prelude.{ℕ, ◌≡◌, ◌==◌, ◌⊎◌, ◌-◌, if◌then◌else◌, nat_le, not, Bool, true, false, List}
use Rattle.std.specs.Prelude.{slice_get, ◌++◌, length, take, replicate, Option, Some, None}
use Rattle.lapdm_frame.specs.declared.Channel.{Channel}
use Rattle.lapdm_frame.specs.declared.Channel.TheVariants.{Sdcch, Sacch}
use Rattle.lapdm_frame.specs.declared.Refusal.{Refusal}
use Rattle.lapdm_frame.specs.declared.Refusal.TheVariants.{Lpd, Ea, Control, El, Length, Empty, More}
use Rattle.lapdm_frame.specs.declared.Kind.{Kind}
use Rattle.lapdm_frame.specs.Content.{Content, Fields, Frame, all_frame_kinds, kind_number, fields_of_content, content_with_fields}
use Rattle.lapdm_frame.specs.Frames.{bit_of_bool, FrameFits, octets_of}
use Rattle.lapdm_frame.specs.Readings.{IsOnlyEncodedFrame, IsOnlyRefusalReason}
use Rattle.um_c.specs.declared.frames.CFrame.{CFrame}

-- the channel with this number: 0 is SDCCH, 1 is SACCH, any other number is invalid
abbrev pub channel_of : (number : ℕ) → Option Channel
channel_of number = if number == 0 then Some Sdcch else if number == 1 then Some Sacch else None

-- the C struct of a frame: fields that its kind does not have are 0, and zeros follow the information
abbrev pub c_frame_of_fields : (sapi : ℕ) (cr : Bool) (fields : Fields) → CFrame
c_frame_of_fields sapi cr f = record {
  kind = kind_number f.kind;
  sapi = sapi;
  cr = bit_of_bool cr;
  pf = bit_of_bool f.pf;
  ns = f.ns;
  nr = f.nr;
  more = bit_of_bool f.more;
  count = length f.info;
  info = f.info ++ replicate (20 - length f.info) 0;
}

-- converts a frame to a C struct
abbrev pub c_struct : Frame → CFrame
c_struct f = c_frame_of_fields f.sapi f.cr (fields_of_content f.content)

-- the number in the C API for the reason why a block is not a valid frame, 1 to 7; 0 means success
abbrev pub frame_refusal_number : Refusal → ℕ
frame_refusal_number Lpd = 1
frame_refusal_number Ea = 2
frame_refusal_number Control = 3
frame_refusal_number El = 4
frame_refusal_number Length = 5
frame_refusal_number Empty = 6
frame_refusal_number More = 7

-- either the octets encode exactly one frame, and the call returns 0 and writes its fields; or they are not a valid frame, and the call
-- returns the number of the reason and writes nothing
abbrev pub IsFrameReadResult : (channel : Channel) (octets : List ℕ) (answer : ℕ) (before after : CFrame) → Type 0
IsFrameReadResult channel octets answer before after =
    ((f : Frame) × IsOnlyEncodedFrame channel f octets × (answer ≡ 0) × (after ≡ c_struct f))
    ⊎ ((reason : Refusal) × IsOnlyRefusalReason channel octets reason × (answer ≡ frame_refusal_number reason) × (after ≡ before))

-- whether a number in a C struct counts as bit 1: every nonzero number does
abbrev pub is_nonzero : (field : ℕ) → Bool
is_nonzero field = not (field == 0)

-- the frame content, if its information has this number of octets; otherwise `None`
abbrev pub content_if_info_length : (count : ℕ) (content : Content) → Option Content
content_if_info_length count content = if length (fields_of_content content).info == count then Some content else None

-- the frame content that the fields describe for this kind, or `None` if there is no kind, or if a kind without information has a nonzero
-- count; fields that the kind does not have are ignored
abbrev pub content_of_kind : (frame : CFrame) (kind : Option Kind) → Option Content
content_of_kind f None = None
content_of_kind f (Some kind) = content_if_info_length f.count (content_with_fields kind f.ns f.nr (is_nonzero f.pf) (is_nonzero f.more)
    (take f.count f.info))

-- the frame content that the fields describe, or `None` if they describe none
abbrev pub content_from_fields : CFrame → Option Content
content_from_fields f = content_of_kind f (slice_get all_frame_kinds f.kind)

-- the frame with this SAPI, C/R bit and content, or `None` if there is no content
abbrev pub frame_with_address_fields : (sapi : ℕ) (cr : Bool) (content : Option Content) → Option Frame
frame_with_address_fields sapi cr None = None
frame_with_address_fields sapi cr (Some content) = Some (record { sapi = sapi; cr = cr; content = content })

-- the frame that the fields describe, or `None` if they describe none or the count of information octets exceeds 20
abbrev pub frame_from_fields : CFrame → Option Frame
frame_from_fields f = if nat_le f.count 20 then frame_with_address_fields f.sapi (is_nonzero f.cr) (content_from_fields f) else None

-- if `frame` is a frame that fits in a block of the channel, the call returns true and writes its canonical octets; otherwise it returns
-- false and writes nothing
abbrev pub IsFrameWriteResult : (channel : Channel) (frame : Option Frame) (answer : Bool) (before after : List ℕ) → Type 0
IsFrameWriteResult channel None answer before after = (answer ≡ false) × (after ≡ before)
IsFrameWriteResult channel (Some f) answer before after =
    (FrameFits channel f × (answer ≡ true) × (after ≡ octets_of channel f))
    ⊎ ((¬ FrameFits channel f) × (answer ≡ false) × (after ≡ before))
