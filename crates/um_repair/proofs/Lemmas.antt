-- The lines of `repair`, and the result of a repair.
use Rattle.{
  fire_repair.{proofs.RepairResults.one_answer, specs.{Answers.IsRepairResult, declared.repairs.RepairAnswer.RepairAnswer}},
  std.proofs.{Common.{Err, None, Ok, Option, Result, Some, ◌≢◌}, Math.Logic.◌↔◌},
  std.proofs.Common.{List, [], ap, arith, drop, length-append, length, refl, sym, ℕ, ◌++◌, ◌∙◌, ◌≡◌},
  std.proofs.lemmas.List.{append-nil, drop_all, drop_at, take_at},
  um_lines.{
    proofs.{FormLaws.{line_by_forms, parsed_meaning}, bit_blocks.Lemmas.{AllBits-append, AllBits-bits_of, length-bits_of}},
    specs.{
      declared.fault.LineFault.LineFault,
      Forms.{LineMeans, never_misplaced},
      Meanings.HasOneMeaningOrFault,
      Fields.Value,
      RepairForms.{RepairLineKind, repair_line_forms},
      bit_blocks.Bits.AllBits,
    },
    specs.bit_blocks.Octets.bits_of,
  },
  um_driver.specs.Rules.stateless_step,
  um_repair.proofs.Searching.IsRepairResult-repair_result,
  um_repair.specs.{
    RepairLines.{RepairLineMeans, bits_of_data_and_crc, repair_line_fault, repair_line_of_meaning, repair_line},
    RepairRules.{repair_command_rules, repair_result},
    Texts.{ReportsRepair, answer_text},
    declared.parsing.RepairLine.{TheVariants.{Skip, Word}, RepairLine},
  },
}
use borrow.Rule.Slice.PartMut.{put_mid}
use Rattle.um_lines.proofs.FormLaws as Laws

-- ## LineLaws: A line of `repair` either has exactly one meaning or is refused; the meaning of a line that is not skipped is a word of 224
-- bits.

pub one_meaning : (line : List ℕ) → HasOneMeaningOrFault (repair_line_fault line) (RepairLineMeans line)
one_meaning line =
    Laws.one_made repair_line_of_meaning (LineMeans repair_line_forms never_misplaced line) (repair_line_fault line)
    (Laws.one_meaning repair_line_forms never_misplaced line refl)

abbrev pub AreWordBits : RepairLine → Type 0
AreWordBits Skip = Unit {0}
AreWordBits (Word w) = (length w ≡ 224) × AllBits w

bits_of_octets : (octets check : List ℕ) → length octets ≡ 23 → length check ≡ 5 →
    AreWordBits (Word (bits_of_data_and_crc octets check))
bits_of_octets octets check many few = (
  omega (arith, length-append (bits_of octets) (bits_of check), length-bits_of octets, length-bits_of check),
  AllBits-append (bits_of octets) (bits_of check) (AllBits-bits_of octets) (AllBits-bits_of check),
)

are_word_bits : (line : List ℕ) (meaning : RepairLine) → RepairLineMeans line meaning → AreWordBits meaning
are_word_bits line meaning means =
    line_by_forms repair_line_forms never_misplaced repair_line_of_meaning AreWordBits tt (
      λ count values here (octets, rest, is, known, (check, rest', is', known', none)).
          rw (is, is', none) (bits_of_octets octets check known.0 known'.0),
      tt,
    ) line meaning means

abbrev IsWordIfAny : Option (RepairLineKind × List Value) → Type 0
IsWordIfAny None = Unit {0}
IsWordIfAny (Some meaning) = repair_line_of_meaning (Some meaning) ≢ Skip

-- a line with the form of `repair` is not read as a skipped line
pub skipped_line : (line : List ℕ) → RepairLineMeans line Skip → LineMeans repair_line_forms never_misplaced line None
skipped_line line (None, means, is) = means
skipped_line line (Some meaning, means, is) =
    let word = line_by_forms repair_line_forms never_misplaced (λ said. said) IsWordIfAny tt (
      λ _ _ _ (octets, _, is, _, (check, _, is', _, none)). rw (is, is', none) (λ q. cc),
      tt,
    ) line (Some meaning) (Some meaning, means, refl) in absurd (word (sym is))

pub written_word : (x y zeros : List ℕ) → length x ≡ 184 → length zeros ≡ 40 → put_mid 184 40 (x ++ zeros) y ≡ x ++ y
written_word x y zeros ex ez =
    let rest : drop 40 (drop 184 (x ++ zeros)) ≡ [] = ap (drop 40) (drop_at x zeros 184 ex) ∙ drop_all 40 zeros (omega arith) in
    ap (λ front. front ++ (y ++ drop 40 (drop 184 (x ++ zeros)))) (take_at x zeros 184 ex)
    ∙ ap (λ back. x ++ (y ++ back)) rest
    ∙ ap (λ back. x ++ back) (append-nil y)

-- ## Results: `repair_result` is the only result that is correct for a word of 224 bits.

pub repair_result-only : (w : List ℕ) (a : RepairAnswer) → length w ≡ 224 → AllBits w → IsRepairResult w a →
    a ≡ repair_result w
repair_result-only w a count bits is = one_answer w a _ is (IsRepairResult-repair_result w count bits)

pub result_of_line : (line w : List ℕ) (a : RepairAnswer) → RepairLineMeans line (Word w) → IsRepairResult w a →
    a ≡ repair_result w
result_of_line line w a means = repair_result-only w a (are_word_bits line (Word w) means).0 (are_word_bits line (Word w) means).1

-- ## Reporting: The answer to a line with a word is the line for a correct result of its repair.

line_meaning : (line w : List ℕ) → RepairLineMeans line (Word w) → repair_line line ≡ Ok (Word w)
unfolding repair_line
line_meaning line w means = parsed_meaning repair_line_forms never_misplaced repair_line_of_meaning line (Word w) refl means

text_of : Result (List ℕ × Unit {0}) LineFault → List ℕ
text_of (Ok next) = next.0
text_of (Err fault) = []

same_text : (x y : List ℕ) → stateless_step (Ok x) ≡ stateless_step (Ok y) → x ≡ y
unfolding text_of
same_text x y same = ap text_of same

pub answer_reports : (line text w : List ℕ) → RepairLineMeans line (Word w) →
    (repair_command_rules.step tt line ≡ Ok (text, tt)) ↔ ReportsRepair w text
answer_reports line text w means =
    let (count, bits) = are_word_bits line (Word w) means in
    let computed : repair_command_rules.step tt line ≡ Ok (answer_text (repair_result w), tt) = rw (line_meaning line w means) refl in (
      λ is. (
        repair_result w,
        IsRepairResult-repair_result w count bits,
        same_text text (answer_text (repair_result w)) (sym is ∙ computed),
      ),
      λ (result, correct, said).
          let same = ap answer_text (sym (repair_result-only w result count bits correct)) in
          computed ∙ ap (λ (x : List ℕ). Ok (x, tt)) (same ∙ sym said),
    )
