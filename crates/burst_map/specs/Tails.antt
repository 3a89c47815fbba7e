-- The tail bits of bursts (GSM 05.02 section 5.2).
use Rattle.std.specs.Prelude.{ℕ, List, [], ◌∷◌}

-- the three tail bits of a burst, which are 0
abbrev pub tail_bits : List ℕ
tail_bits = 0 ∷ 0 ∷ 0 ∷ []
