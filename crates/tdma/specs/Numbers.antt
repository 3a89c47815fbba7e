-- The bits of a base station identity code, as an access burst's coding takes them (GSM 05.03, today 3GPP TS 45.003, section 4.6).
use Rattle.std.specs.Prelude.{ℕ, ◌/◌, ◌%◌, List, [], ◌∷◌}

-- the six bits of a base station identity code, most significant bit first
abbrev pub bsic_bits : (bsic : ℕ) → List ℕ
bsic_bits bsic = bsic / 32 % 2 ∷ bsic / 16 % 2 ∷ bsic / 8 % 2 ∷ bsic / 4 % 2 ∷ bsic / 2 % 2 ∷ bsic % 2 ∷ []
