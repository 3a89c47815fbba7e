-- How bursts are written as lines (this project's own rule).
use Rattle.std.specs.Prelude.{ℕ, List, ◌++◌, codes}
use Rattle.std.specs.List.{flat_map}
use Rattle.um_lines.specs.Fields.{bit_digits}

-- the line of a normal burst: `n DIGITS148`
abbrev pub normal_burst_text : (burst : List ℕ) → List ℕ
normal_burst_text burst = codes "n " ++ bit_digits burst ++ codes "\n"

-- the line of an access burst: `a BSIC6 DIGITS88`
abbrev pub access_burst_text : (bsic burst : List ℕ) → List ℕ
access_burst_text bsic burst = codes "a " ++ bit_digits bsic ++ codes " " ++ bit_digits burst ++ codes "\n"

-- the line of a synchronisation burst: `s DIGITS148`
abbrev pub sync_burst_text : (burst : List ℕ) → List ℕ
sync_burst_text burst = codes "s " ++ bit_digits burst ++ codes "\n"

-- the lines of the normal bursts of a block, in order
abbrev pub bursts_text : (bursts : List (List ℕ)) → List ℕ
bursts_text bursts = flat_map normal_burst_text bursts
