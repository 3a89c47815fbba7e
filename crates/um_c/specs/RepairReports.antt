-- The C struct that describes the repair of a word.
use Rattle.std.specs.Prelude.{ℕ, ◌≡◌, ◌⊎◌, List}
use Rattle.um_block.specs.bit_blocks.Bits.{AllBits}
use Rattle.fire_repair.specs.fire_code.Words.{IsXcchCodeword}
use Rattle.fire_repair.specs.Repairs.{IsRepair, IsSpanOfChangedBits}
use Rattle.um_c.specs.declared.repairs.RepairReport.{RepairReport}

-- for a word of bits, the call returns 0 if the CRC holds; 1 if the word is repaired, and `after` describes the repair; or 2 if it cannot
-- be repaired; unless it returns 1, it writes nothing
abbrev pub IsRepairResultForBitWord : (word : List ℕ) (answer : ℕ) (before after : RepairReport) → Type 0
IsRepairResultForBitWord w answer before after =
    (IsXcchCodeword w × (answer ≡ 0) × (after ≡ before))
    ⊎ (IsRepair w after.word × IsSpanOfChangedBits w after.word after.first after.span × (answer ≡ 1))
    ⊎ ((IsXcchCodeword w → ⊥) × ((v : List ℕ) → IsRepair w v → ⊥) × (answer ≡ 2) × (after ≡ before))

-- the call returns 3 and writes nothing if an octet of the word is neither 0 nor 1; otherwise it returns 0, 1 or 2, as for a word of bits
abbrev pub IsRepairCallResult : (word : List ℕ) (answer : ℕ) (before after : RepairReport) → Type 0
IsRepairCallResult w answer before after =
    (AllBits w × IsRepairResultForBitWord w answer before after) ⊎ ((AllBits w → ⊥) × (answer ≡ 3) × (after ≡ before))
