use Rattle.{
  std.proofs.{Common.{None, Some, ap, codes, sym, ◌∙◌}, lemmas.{Bool.Decides.Decides-eqb, Slice.Eq.strip_prefix_is}},
  um_formats.{proofs.FrameLines.no_name, specs.ShowLines.show_parse_result},
  um_lines.specs.Words.words,
}
use Rattle.um_formats.proofs.show.parse_words.Goals as goal

pub returns-in-Some : goal.returns-in-Some
returns-in-Some c =
    c.parse_octets.ensures ∙ sym (ap (λ line. show_parse_result (words line))
    (strip_prefix_is Decides-eqb c.args.line.now (codes "octets ") (Some c.in-Some.rest) c.in-Some.ensures.cases))

pub returns-in-Some-strip_prefix : goal.returns-in-Some-strip_prefix
returns-in-Some-strip_prefix c =
    let rest = c.in-Some-strip_prefix in
    c.parse_frame.ensures ∙ sym (ap (λ line. show_parse_result (words line))
    (strip_prefix_is Decides-eqb c.args.line.now (codes "frame ") (Some rest.rest) rest.ensures.cases))

pub returns-in_default-strip_prefix : goal.returns-in_default-strip_prefix
returns-in_default-strip_prefix c =
    no_name c.args.line.now (strip_prefix_is Decides-eqb c.args.line.now (codes "octets ") None c.in_default.ensures.cases)
    (strip_prefix_is Decides-eqb c.args.line.now (codes "frame ") None c.in_default-strip_prefix.ensures.cases)
