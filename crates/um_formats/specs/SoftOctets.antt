-- How octets represent soft values (this project's own rule).
use Rattle.std.specs.Prelude.{ℕ, ℤ, List, map}
use Rattle.std.specs.Int.{w8, cast_signed}

-- the signed numbers, -128 to 127, that octets represent in two's complement
abbrev pub signed_octets : (octets : List ℕ) → List ℤ
signed_octets octets = map (cast_signed w8) octets
