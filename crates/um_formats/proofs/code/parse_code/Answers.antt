use Rattle.{
  std.proofs.{Common.{Err, Ok, ap, false, true, refl, ◌∙◌}, lemmas.Result.err_from_is_err_and},
  um_formats.specs.CodeLines.{code_line, code_line_of_meaning},
  um_lines.{proofs.FormLaws.parsed_by_words, specs.{Forms.never_misplaced, CodeForms.code_line_forms}},
}
use Rattle.um_formats.proofs.code.parse_code.Goals as goal

pub returns-in_err-skips_line-clause-value : goal.returns-in_err-skips_line-clause-value
unfolding code_line
returns-in_err-skips_line-clause-value c =
    let err = err_from_is_err_and c.from_residual.result c.from_residual.ensures.1 in err.1 ∙ ap Err err.2
    ∙ (parsed_by_words code_line_forms never_misplaced code_line_of_meaning _ (Err _) _ c.in_err-skips_line.ensures.value refl).1

pub returns-then-branch-clause-value : goal.returns-then-branch-clause-value
unfolding code_line
returns-then-branch-clause-value c =
    (parsed_by_words code_line_forms never_misplaced code_line_of_meaning _ (Ok true) _
    (rw c.if-branch.true at c.in_ok-skips_line.ensures.value) refl).1

pub returns : goal.returns
unfolding code_line
returns c =
    let all = parsed_by_words code_line_forms never_misplaced code_line_of_meaning _ (Ok false) _
    (rw c.if-branch.false at c.in_ok-skips_line.ensures.value) c.parse_words.ensures in
    record { means = all.0.0; refused = all.0.1; value = all.1 }
