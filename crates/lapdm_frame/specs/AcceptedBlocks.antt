-- The frame in a received block.
use Rattle.std.specs.Prelude.{ℕ, List, Option, Some, None}
use Rattle.lapdm_frame.specs.declared.Channel.{Channel}
use Rattle.lapdm_frame.specs.declared.Refusal.{Refusal}
use Rattle.lapdm_frame.specs.Content.{Frame}
use Rattle.lapdm_frame.specs.Frames.{IsFrameCoding}
use Rattle.lapdm_frame.specs.Refusals.{IsRefused}

-- the frame in the accepted octets, or `None` if no octets are accepted or they do not encode a frame
abbrev pub ReadsFrame : (channel : Channel) (accepted : Option (List ℕ)) (read : Option Frame) → Type 0
ReadsFrame channel (Some octets) (Some f) = IsFrameCoding channel f octets
ReadsFrame channel (Some octets) None = (why : Refusal) × IsRefused channel octets why
ReadsFrame channel None (Some f) = ⊥
ReadsFrame channel None None = Unit {0}
