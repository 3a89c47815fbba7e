-- Octets as lists of bits in the order of transmission, least significant bit first (GSM 04.04 section 6, used by GSM 05.03 section 4.1).
use Rattle.std.specs.Prelude.{ℕ, ◌<◌, ◌+◌, ◌*◌, ◌/◌, ◌%◌, List, [], ◌∷◌}
use Rattle.std.specs.List.{All, flat_map}

-- the number is an octet, that is, below 256
abbrev pub IsOctet : ℕ → Type 0
IsOctet octet = octet < 256

-- every number in the list is an octet
abbrev pub AllOctets : List ℕ → Type 0
AllOctets octets = All IsOctet octets

-- the eight bits of an octet, least significant bit first
abbrev pub octet_bits : (octet : ℕ) → List ℕ
octet_bits octet =
    octet % 2 ∷
    octet / 2 % 2 ∷
    octet / 4 % 2 ∷
    octet / 8 % 2 ∷
    octet / 16 % 2 ∷
    octet / 32 % 2 ∷
    octet / 64 % 2 ∷
    octet / 128 % 2 ∷ []

-- the bits of a list of octets in order, eight per octet, least significant bit first
abbrev pub bits_of : (octets : List ℕ) → List ℕ
bits_of octets = flat_map octet_bits octets

-- packs bits into octets, eight to an octet, least significant bit first; leftover bits (fewer than eight) are dropped
abbrev pub octets_of : (bits : List ℕ) → List ℕ
octets_of (a ∷ b ∷ c ∷ d ∷ e ∷ f ∷ g ∷ h ∷ rest) =
    (a + 2 * b + 4 * c + 8 * d + 16 * e + 32 * f + 64 * g + 128 * h) ∷ octets_of rest
octets_of _ = []
