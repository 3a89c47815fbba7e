-- What the call that reads a frame of format B4 returns and writes.
use Rattle.std.specs.Prelude.{ℕ, ◌≡◌, ◌⊎◌, Bool, true, false, List}
use Rattle.lapdm_b4.specs.Blocks.{IsB4Coding}

-- either the octets are a frame of format B4, and the call returns true and writes its information; or it returns false and writes nothing
abbrev pub IsB4ReadResult : (octets : List ℕ) (answer : Bool) (before after : List ℕ) → Type 0
IsB4ReadResult octets answer before after =
    (IsB4Coding after octets × (answer ≡ true))
    ⊎ (((info : List ℕ) → ¬ IsB4Coding info octets) × (answer ≡ false) × (after ≡ before))
