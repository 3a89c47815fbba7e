-- The buffer for the bursts of an incomplete block (this project's own rule).
use Rattle.std.specs.Prelude.{ℕ, ℤ, ◌≡◌, ◌==◌, ◌<◌, Bool, true, false, List, [], ◌∷◌, ◌++◌, length, None, codes}
use Rattle.std.specs.List.{list_all, list_any}
use Rattle.um_lines.specs.Hex.{is_hex_digit}
use Rattle.um_lines.specs.Fields.{is_bit_digit, octets_from_hex}
use Rattle.um_block.specs.bit_blocks.SoftValues.{AllSoftBits}
use Rattle.um_formats.specs.declared.burst_lines.BurstLine.{BurstLine}
use Rattle.um_formats.specs.declared.burst_lines.BurstLine.TheVariants as B
use Rattle.um_formats.specs.declared.held.BurstsToDecode.{BurstsToDecode}
use Rattle.um_formats.specs.declared.held.BurstsToDecode.TheVariants as N
use Rattle.um_formats.specs.BurstLines.{burst_line_fault, BurstLineMeans}

-- a buffer for the four bursts of a block: `held` lists the bursts of the incomplete block, in order; `slots` is the whole buffer, which
-- keeps the last complete block until the next normal burst overwrites it
pub record BurstBuffer : Type 0 where
  pub held : List (List ℤ)
  pub slots : List (List ℤ)

-- a normal burst is added to the buffer; if `completes_block`, it completes the block, and no burst of an incomplete block remains
abbrev pub AddsNormalBurst : (old : BurstBuffer) (burst : List ℤ) (completes_block : Bool) (new : BurstBuffer) → Type 0
AddsNormalBurst old burst false new = (new.held ≡ old.held ++ burst ∷ []) × (length new.held < 4)
AddsNormalBurst old burst true new = (new.slots ≡ old.held ++ burst ∷ []) × (length new.slots ≡ 4) × (new.held ≡ [])

abbrev pub normal_burst_result : (completes_block : Bool) → BurstsToDecode
normal_burst_result false = N.Held
normal_burst_result true = N.Block

-- the line changes the buffer from `old` to `new` and makes `next` ready to decode; only a normal burst changes the buffer
abbrev pub GivesBurstsToDecode : (old : BurstBuffer) (line : BurstLine) (next : BurstsToDecode) (new : BurstBuffer) → Type 0
GivesBurstsToDecode old B.Skip next new = (next ≡ N.Skip) × (new ≡ old)
GivesBurstsToDecode old (B.Normal soft) next new = (completes_block : Bool) × (next ≡ normal_burst_result completes_block)
    × AddsNormalBurst old soft completes_block new
GivesBurstsToDecode old (B.Access bsic soft) next new = (next ≡ N.Access bsic soft) × (new ≡ old)
GivesBurstsToDecode old (B.Sync soft) next new = (next ≡ N.Sync soft) × (new ≡ old)

-- the soft values of an access or synchronisation burst are in the range -127 to 127
abbrev pub HasValidSoftValues : BurstsToDecode → Type 0
HasValidSoftValues (N.Access bsic soft) = AllSoftBits soft
HasValidSoftValues (N.Sync soft) = AllSoftBits soft
HasValidSoftValues next = Unit {0}

-- ---- definitions that only the contracts of the parser use

-- `line` holds the 148 hard bits of a normal burst: `n ` and 148 `digits`, each `0` or `1`
pub record IsHardNormalBurstLine (line digits : List ℕ) : Type 0 where
  pub line_form : line ≡ codes "n " ++ digits
  pub all_bit_digits : list_all is_bit_digit digits ≡ true
  pub right_length : length digits ≡ 148

-- `line` holds the 148 soft values of a normal burst, perhaps including -128: `N ` and 296 hexadecimal `digits`
pub record IsHexNormalBurstLine (line digits : List ℕ) : Type 0 where
  pub line_form : line ≡ codes "N " ++ digits
  pub all_hex_digits : list_all is_hex_digit digits ≡ true
  pub right_length : length digits ≡ 296

-- `line` holds the 148 soft values of a normal burst, none of them -128
pub record IsSoftNormalBurstLine (line digits : List ℕ) : Type 0 where
  pub octets : IsHexNormalBurstLine line digits
  pub in_range : list_any (λ octet. octet == 128) (octets_from_hex digits) ≡ false

-- `line` holds a valid normal burst, which is added to the buffer and, if `completes_block`, completes the block
pub record HoldsBurstOfLine (old : BurstBuffer) (line : List ℕ) (new : BurstBuffer) (completes_block : Bool) : Type 0 where
  pub soft : List ℤ
  pub means : BurstLineMeans (length old.held) line (B.Normal soft)
  pub no_fault : None ≡ burst_line_fault (length old.held) line
  pub adds_burst : AddsNormalBurst old soft completes_block new
