-- The range of a signed octet.
use Rattle.std.specs.Prelude.{◌≤ℤ◌, ℤ, pos, negsuc, List}
use Rattle.std.specs.List.{All}

-- the number is a signed octet, that is, from -128 to 127
abbrev pub IsSignedOctet : ℤ → Type 0
IsSignedOctet p = (negsuc 127 ≤ℤ p) × (p ≤ℤ pos 127)

-- every number in the list is a signed octet
abbrev pub AreSignedOctets : List ℤ → Type 0
AreSignedOctets soft = All IsSignedOctet soft
