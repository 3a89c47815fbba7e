use Rattle.{
  std.proofs.Common.{ap, sym, ◌∙◌},
  um_lines.specs.Words.words,
  um_script.{
    specs.Held.{remaining_words, decimal_word_values},
    proofs.ScriptLines.{has_marked_or_repeated_index, repeated-no_marks, repeated-next},
  },
}
use Rattle.um_script.proofs.places.has_repeated_index.Goals as goal

pub returns-then-named-place : goal.returns-then-named-place
returns-then-named-place c =
    repeated-next c.loop-rest.named (remaining_words c.loop-rest.rest) _ _ c.from-place.result (ap remaining_words c.in-Some.is
    ∙ c.split_first_word.ensures)
    (c.from-place.ensures ∙ c.bit_index_of_word.ensures) c.loop-rest.invariant.left.in_range c.if-named-place.true
    ∙ sym c.loop-rest.invariant.same
    ∙ repeated-no_marks (words c.args.text.now) c.requires.in_range

pub returns : goal.returns
returns c =
    ap (λ rest. has_marked_or_repeated_index c.loop-rest.named (decimal_word_values (remaining_words rest))) (sym c.in_default.is)
    ∙ sym c.loop-rest.invariant.same
    ∙ repeated-no_marks (words c.args.text.now) c.requires.in_range
