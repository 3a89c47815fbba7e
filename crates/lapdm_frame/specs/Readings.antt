-- Any 23 octets have exactly one reading: either one frame, or one reason why they are refused.
use Rattle.std.specs.Prelude.{◌≡◌, ℕ, ◌+◌, List, ◌⊎◌, IfSome, Result, Ok, Err}
use Rattle.std.specs.Borrow.{Bor}
use Rattle.lapdm_frame.specs.declared.Channel.{Channel}
use Rattle.lapdm_frame.specs.declared.Refusal.{Refusal}
use Rattle.lapdm_frame.specs.declared.Body.{Body}
use Rattle.lapdm_frame.specs.Layout.{layer1_octet_count}
use Rattle.lapdm_frame.specs.Content.{Frame, borrowed_information}
use Rattle.lapdm_frame.specs.Frames.{IsFrameCoding, IsCanonicalCoding}
use Rattle.lapdm_frame.specs.Refusals.{IsRefused}

-- the octets encode the frame `f` and no other, and no reason to refuse them applies
pub record IsOnlyEncodedFrame (channel : Channel) (f : Frame) (octets : List ℕ) : Type 0 where
  pub frame : IsFrameCoding channel f octets
  pub unique : (other : Frame) → IsFrameCoding channel other octets → other ≡ f
  pub not_refused : (reason : Refusal) → ¬ IsRefused channel octets reason

-- the octets are refused for `reason` and no other reason, and encode no frame
pub record IsOnlyRefusalReason (channel : Channel) (octets : List ℕ) (reason : Refusal) : Type 0 where
  pub refused : IsRefused channel octets reason
  pub unique : (other : Refusal) → IsRefused channel octets other → other ≡ reason
  pub no_frame : (f : Frame) → ¬ IsFrameCoding channel f octets

-- `octets` is the only canonical coding of the frame `f`, and it encodes no other frame
pub record IsOnlyCanonicalCoding (channel : Channel) (f : Frame) (octets : List ℕ) : Type 0 where
  pub canonical : IsCanonicalCoding channel f octets
  pub unique : (others : List ℕ) → IsCanonicalCoding channel f others → others ≡ octets
  pub encodes_only_this_frame : IsOnlyEncodedFrame channel f octets

-- the octets either encode exactly one frame or are refused for exactly one reason, but not both
abbrev pub HasUniqueReading : (channel : Channel) (octets : List ℕ) → Type 0
HasUniqueReading channel octets = ((f : Frame) × IsOnlyEncodedFrame channel f octets) ⊎ ((reason : Refusal) ×
    IsOnlyRefusalReason channel octets reason)

-- the reading is the only frame that the octets encode, or the only reason why they are refused
abbrev pub IsOnlyReading : (channel : Channel) (octets : List ℕ) (reading : Result Frame Refusal) → Type 0
IsOnlyReading channel octets (Ok f) = IsOnlyEncodedFrame channel f octets
IsOnlyReading channel octets (Err reason) = IsOnlyRefusalReason channel octets reason

-- the information of a frame body, if its kind has any, is a borrowed slice of the block that begins directly after the length octet
abbrev pub InformationIsBorrowed : (channel : Channel) (block : Bor (List ℕ)) (body : Body) → Type 0
InformationIsBorrowed channel block body = IfSome (borrowed_information body) (λ info. (info.ref_ptr.0 ≡ block.ref_ptr.0)
    × (info.ref_ptr.1 ≡ block.ref_ptr.1 + layer1_octet_count channel + 3))
