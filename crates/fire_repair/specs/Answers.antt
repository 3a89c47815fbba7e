-- The meaning of each result of `repair`.
use Rattle.std.specs.Prelude.{ℕ, List}
use Rattle.fire_code.specs.Words.{IsXcchCodeword}
use Rattle.fire_repair.specs.Repairs.{IsRepair, IsSpanOfChangedBits}
use Rattle.fire_repair.specs.declared.repairs.RepairAnswer.{RepairAnswer}
use Rattle.fire_repair.specs.declared.repairs.RepairAnswer.TheVariants.{Holds, Repaired, NoRepair}

-- the result is correct for a word of 224 bits: `Holds` if the word is a codeword, `Repaired` if changes within twelve consecutive bits
-- make it one, else `NoRepair`
abbrev pub IsRepairResult : (word : List ℕ) (answer : RepairAnswer) → Type 0
IsRepairResult w Holds = IsXcchCodeword w
IsRepairResult w (Repaired word first span) = IsRepair w word × IsSpanOfChangedBits w word first span
IsRepairResult w NoRepair = (IsXcchCodeword w → ⊥) × ((v : List ℕ) → IsRepair w v → ⊥)
