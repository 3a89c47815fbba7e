-- What the call that names a fault returns.
use Rattle.std.specs.Prelude.{◌≡◌, ℕ, List, Option, Some, None}
use Rattle.lapdm_frame.specs.declared.Refusal.{Refusal}
use Rattle.lapdm_frame.specs.Content.{Frame}
use Rattle.lapdm_frame.specs.Readings.{IsOnlyEncodedFrame, IsOnlyRefusalReason}
use Rattle.lapdm_datalink.specs.DataLinks.{DataLinkState}
use Rattle.lapdm_faults.specs.declared.Fault.{Fault}
use Rattle.lapdm_faults.specs.declared.Fault.TheVariants.{NrSequence, UnaskedUa, UnaskedDm}
use Rattle.lapdm_faults.specs.Faults.{arrival_fault}
use Rattle.um_c.specs.declared.datalinks.CDataLink.{CDataLink}
use Rattle.um_c.specs.DataLinkCalls.{RepresentsDataLink, RepresentsSomeDataLink}

-- the number of a fault, or of none
abbrev pub fault_number : Option Fault → ℕ
fault_number None = 0
fault_number (Some NrSequence) = 1
fault_number (Some UnaskedUa) = 2
fault_number (Some UnaskedDm) = 3

-- the call returns the fault of the frame that the block encodes, and 0 if it encodes none or if the struct represents no data link
pub record TellsFault (octets : List ℕ) (answer : ℕ) (c : CDataLink) : Type 0 where
  pub told : (s : DataLinkState) → RepresentsDataLink c s → (f : Frame) → IsOnlyEncodedFrame s.link0.endpoint.channel f octets →
      answer ≡ fault_number (arrival_fault f s)
  pub invalid_frame : (s : DataLinkState) → RepresentsDataLink c s → (reason : Refusal) →
      IsOnlyRefusalReason s.link0.endpoint.channel octets reason → answer ≡ 0
  pub invalid_struct : (RepresentsSomeDataLink c → ⊥) → answer ≡ 0
