-- How the `repair` command answers a line (this project's own rule).
use Rattle.std.specs.Prelude.{ℕ, ◌+◌, ◌-◌, Bool, List, [], ◌∷◌, ◌++◌, take, drop, Option, Some, None, nat_eq}
use Rattle.std.specs.Prelude.{if◌then◌else◌}
use Rattle.std.specs.Str.{bytes_eq}
use Rattle.std.proofs.Common.{zero, suc}
use Rattle.fire_code.specs.Crcs.{xcch_crc}
use Rattle.fire_repair.specs.declared.repairs.RepairAnswer.{RepairAnswer}
use Rattle.fire_repair.specs.declared.repairs.RepairAnswer.TheVariants.{Holds, Repaired, NoRepair}
use Rattle.um_driver.specs.Rules.{Rules, stateless, answer_to_meaning}
use Rattle.um_repair.specs.declared.parsing.RepairLine.{RepairLine}
use Rattle.um_repair.specs.declared.parsing.RepairLine.TheVariants.{Skip, Word}
use Rattle.um_repair.specs.RepairLines.{repair_line}
use Rattle.um_repair.specs.Texts.{answer_text}

-- whether 224 bits are a codeword: the last 40 are the check bits of the first 184
abbrev pub is_codeword : (word : List ℕ) → Bool
is_codeword word = bytes_eq (drop 184 word) (xcch_crc (take 184 word))

abbrev pub first_of : (a b : Option (List ℕ)) → Option (List ℕ)
first_of None b = b
first_of (Some word) b = Some word

-- the first codeword, in lexicographic order, that begins with `front` and ends with `back`, with this number of bits between them
abbrev pub codeword_between : (count : ℕ) (front back : List ℕ) → Option (List ℕ)
codeword_between zero front back = if is_codeword (front ++ back) then Some (front ++ back) else None
codeword_between (suc n) front back = first_of (codeword_between n (front ++ 0 ∷ []) back) (codeword_between n (front ++ 1 ∷ []) back)

-- the first codeword that equals the word but in twelve bits, which begin before the bit `end`
unfoldable pub codeword_near : (word : List ℕ) (end : ℕ) → Option (List ℕ)
codeword_near word zero = None
codeword_near word (suc start) = first_of (codeword_near word start) (codeword_between 12 (take start word) (drop (start + 12) word))

-- the index of the first bit at which two words differ
abbrev pub first_difference : (word repaired : List ℕ) → ℕ
first_difference (x ∷ xs) (y ∷ ys) = if nat_eq x y then suc (first_difference xs ys) else 0
first_difference xs ys = 0

-- the index after the last bit at which two words differ, or 0 if they are equal
abbrev pub end_of_differences : (word repaired : List ℕ) → ℕ
end_of_differences (x ∷ xs) (y ∷ ys) =
    let later = end_of_differences xs ys in
    if nat_eq later 0 then (if nat_eq x y then 0 else 1) else suc later
end_of_differences xs ys = 0

abbrev pub repair_to : (word : List ℕ) (found : Option (List ℕ)) → RepairAnswer
repair_to word None = NoRepair
repair_to word (Some repaired) =
    let first = first_difference word repaired in
    Repaired repaired first (end_of_differences word repaired - first)

-- the only result that is correct for the 224 bits of a word, as `IsRepairResult` defines it. Twelve bits begin at bit 212 at the latest
abbrev pub repair_result : (word : List ℕ) → RepairAnswer
repair_result word = if is_codeword word then Holds else repair_to word (codeword_near word 213)

-- the answer to a word of 224 bits is the line that describes its repair; a skipped line has no answer
abbrev pub repair_answer : (line : RepairLine) → List ℕ
repair_answer Skip = []
repair_answer (Word w) = answer_text (repair_result w)

-- the rules of `repair`, which keeps no state, so its input may end after any line
abbrev pub repair_command_rules : Rules (Unit {0})
repair_command_rules = stateless (λ line. answer_to_meaning repair_answer (repair_line line))
