-- Faults of a length octet, given the frame content that the control octet encodes. Only contracts of the reader's internal functions use
-- these definitions.
use Rattle.std.specs.Prelude.{◌≡◌, ◌≢◌, ℕ, ◌<◌, ◌≤◌, ◌⊎◌}
use Rattle.lapdm_frame.specs.declared.Refusal.{Refusal}
use Rattle.lapdm_frame.specs.declared.Refusal.TheVariants.{El, Length, Empty, More}
use Rattle.lapdm_frame.specs.Content.{Content}
use Rattle.lapdm_frame.specs.Refusals.{IsInformationFrame, HasNoInformation, length_field, m_bit, el_bit}

-- in the length octet, EL is 1, the length is at most `most`, and the length is 0 if the frame kind has no information
pub record IsAllowedLengthOctet (most : ℕ) (content : Content) (octet : ℕ) : Type 0 where
  pub el_bit_set : el_bit octet ≢ 0
  pub length_bound : length_field octet ≤ most
  pub kind_has_information : 0 < length_field octet → ¬ HasNoInformation content

-- the reason is the first of `El`, `Length`, `Empty` and `More` that applies to the length octet
abbrev pub IsLengthFault : (most : ℕ) (content : Content) (octet : ℕ) (refusal : Refusal) → Type 0
IsLengthFault most content octet El = el_bit octet ≡ 0
IsLengthFault most content octet Length = (el_bit octet ≢ 0) × ((most < length_field octet) ⊎ ((0 < length_field octet) ×
    HasNoInformation content))
IsLengthFault most content octet Empty = IsAllowedLengthOctet most content octet × (length_field octet ≡ 0) × IsInformationFrame content
IsLengthFault most content octet More = IsAllowedLengthOctet most content octet × (length_field octet ≡ 0 →
    ¬ IsInformationFrame content) × (m_bit octet ≡ 1)
    × ¬ IsInformationFrame content
IsLengthFault most content octet other = ⊥

-- none of the reasons `El`, `Length`, `Empty` and `More` applies to the length octet
pub record HasNoLengthFault (most : ℕ) (content : Content) (octet : ℕ) : Type 0 where
  pub allowed_length : IsAllowedLengthOctet most content octet
  pub i_frame_not_empty : length_field octet ≡ 0 → ¬ IsInformationFrame content
  pub m_bit_only_in_i_frame : m_bit octet ≡ 1 → IsInformationFrame content
