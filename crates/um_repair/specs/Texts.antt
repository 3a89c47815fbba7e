-- The output lines of `repair` (this project's own rule).
use Rattle.std.specs.Prelude.{ℕ, ◌≡◌, List, ◌++◌, take, drop, codes}
use Rattle.std.specs.Fmt.{decimal}
use Rattle.um_lines.specs.Hex.{encode_lower}
use Rattle.um_lines.specs.bit_blocks.Octets.{octets_of}
use Rattle.fire_repair.specs.Answers.{IsRepairResult}
use Rattle.fire_repair.specs.declared.repairs.RepairAnswer.{RepairAnswer}
use Rattle.fire_repair.specs.declared.repairs.RepairAnswer.TheVariants.{Holds, Repaired, NoRepair}

-- the line `repaired first P span S data HEX46 check HEX10`
abbrev pub repaired_text : (word : List ℕ) (first span : ℕ) → List ℕ
repaired_text word first span =
    codes "repaired first " ++ decimal first ++ codes " span " ++ decimal span
    ++ codes " data " ++ encode_lower (octets_of (take 184 word))
    ++ codes " check " ++ encode_lower (octets_of (take 40 (drop 184 word))) ++ codes "\n"

abbrev pub answer_text : RepairAnswer → List ℕ
answer_text Holds = codes "holds\n"
answer_text (Repaired word first span) = repaired_text word first span
answer_text NoRepair = codes "none\n"

-- `text` is the line for a correct result of the repair of a word
abbrev pub ReportsRepair : (word text : List ℕ) → Type 0
ReportsRepair word text = (result : RepairAnswer) × IsRepairResult word result × (text ≡ answer_text result)
