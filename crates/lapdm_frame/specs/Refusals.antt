-- The reasons why 23 octets are refused as a frame (this project's own rule).
use Rattle.std.specs.Prelude.{◌≡◌, ℕ, ◌/◌, ◌%◌, ◌<◌, ◌≤◌, Bool, true, false, List, ◌⊎◌}
use Rattle.lapdm_frame.specs.declared.Channel.{Channel}
use Rattle.lapdm_frame.specs.declared.Refusal.{Refusal}
use Rattle.lapdm_frame.specs.declared.Refusal.TheVariants.{Lpd, Ea, Control, El, Length, Empty, More}
use Rattle.lapdm_frame.specs.Layout.{n201, address_in_block, control_in_block, length_in_block}
use Rattle.lapdm_frame.specs.declared.Kind.{Kind}
use Rattle.lapdm_frame.specs.declared.Kind.TheVariants as K
use Rattle.lapdm_frame.specs.Content.{Content, I, fields_of_content}
use Rattle.lapdm_frame.specs.Frames.{control_octet, NsAndNrFit}

-- the octet is the control octet of a frame with the given content
abbrev pub IsControlOctetOf : (octet : ℕ) (content : Content) → Type 0
IsControlOctetOf octet content = NsAndNrFit content × (octet ≡ control_octet content)

-- the content is an I frame, the one kind that must have information
abbrev pub IsInformationFrame : Content → Type 0
IsInformationFrame (I ns nr p more info) = Unit {0}
IsInformationFrame other = ⊥

-- whether a frame of a given kind never has information
abbrev pub lacks_information : Kind → Bool
lacks_information K.I = false
lacks_information K.Sabm = false
lacks_information K.Ui = false
lacks_information K.Ua = false
lacks_information other = true

abbrev pub HasNoInformation : Content → Type 0
HasNoInformation content = lacks_information (fields_of_content content).kind ≡ true

-- the octet is the control octet of some content that satisfies the given condition
abbrev pub IsControlOctetOfKind : (HasKind : (Content → Type 0)) (octet : ℕ) → Type 0
IsControlOctetOfKind Kind octet = (content : Content) × IsControlOctetOf octet content × Kind content

-- the length L in a length octet (GSM 04.06, section 3.7.3), which also has the M bit (3.7.2) and the EL bit (3.7.1)
abbrev pub length_field : (octet : ℕ) → ℕ
length_field octet = octet / 4

abbrev pub m_bit : (octet : ℕ) → ℕ
m_bit octet = octet / 2 % 2

abbrev pub el_bit : (octet : ℕ) → ℕ
el_bit octet = octet % 2

-- the reason for refusal applies to the given address, control and length octets. An address octet below 32 has 0 in bits 8, 7 and 6
abbrev pub RefusalApplies : (channel : Channel) (address control length : ℕ) (refusal : Refusal) → Type 0
RefusalApplies channel address control length Lpd = 32 ≤ address
RefusalApplies channel address control length Ea = address % 2 ≡ 0
RefusalApplies channel address control length Control = (content : Content) → ¬ IsControlOctetOf control content
RefusalApplies channel address control length El = el_bit length ≡ 0
RefusalApplies channel address control length Length = (n201 channel < length_field length) ⊎ ((0 < length_field length) ×
    IsControlOctetOfKind HasNoInformation control)
RefusalApplies channel address control length Empty = (length_field length ≡ 0) × IsControlOctetOfKind IsInformationFrame control
RefusalApplies channel address control length More = (m_bit length ≡ 1) × ¬ IsControlOctetOfKind IsInformationFrame control

-- the reason for refusal applies to the address, control and length octets of the block
abbrev pub RefusalAppliesToBlock : (channel : Channel) (octets : List ℕ) (refusal : Refusal) → Type 0
RefusalAppliesToBlock channel octets = RefusalApplies channel (address_in_block channel octets) (control_in_block channel octets)
    (length_in_block channel octets)

-- the position of a reason for refusal in the order of the tests, from 0
abbrev pub refusal_test_index : Refusal → ℕ
refusal_test_index Lpd = 0
refusal_test_index Ea = 1
refusal_test_index Control = 2
refusal_test_index El = 3
refusal_test_index Length = 4
refusal_test_index Empty = 5
refusal_test_index More = 6

-- `reason` applies to the octets, and no reason tested earlier applies
pub record IsRefused (channel : Channel) (octets : List ℕ) (reason : Refusal) : Type 0 where
  pub applies : RefusalAppliesToBlock channel octets reason
  pub no_earlier_reason_applies : (earlier : Refusal) → refusal_test_index earlier < refusal_test_index reason →
      ¬ RefusalAppliesToBlock channel octets earlier
