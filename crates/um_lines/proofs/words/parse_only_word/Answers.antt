use Rattle.{
  std.proofs.{Common.{refl, ap, length, drop, eqb, ◌+◌, arith}, lemmas.List.Splits.length-slice_split},
  um_lines.proofs.Texts.words_cut,
}
use Rattle.um_lines.proofs.words.parse_only_word.Goals as goal

pub returns-in-Some : goal.returns-in-Some
returns-in-Some c =
    let text = c.args.text.now in
    let end = c.in-Some.field-0 in (
      refl,
      λ one. omega (
        arith,
        ap length (words_cut text end c.in-Some.ensures),
        length-slice_split (λ octet. eqb octet 32) (drop (end + 1) text),
      ),
    )
