use Rattle.{
  std.proofs.{Common.{Some, ap, codes, sym, ◌∙◌}, lemmas.{Bool.Decides.Decides-eqb, Slice.Eq.strip_prefix_is}},
  um_formats.specs.CodeLines.code_parse_result,
  um_lines.specs.Words.words,
}
use Rattle.um_formats.proofs.code.parse_words.Goals as goal

pub returns-in-Some : goal.returns-in-Some
returns-in-Some c =
    c.parse_block.ensures ∙ sym (ap (λ line. code_parse_result (words line))
    (strip_prefix_is Decides-eqb c.args.line.now (codes "block ") (Some c.in-Some.rest) c.in-Some.ensures.cases))
