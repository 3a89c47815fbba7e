use Rattle.{
  std.proofs.{Common.{◌≡◌, [], ◌∷◌, map, ap, sym, ◌∙◌}, lemmas.List.length-map},
  um_cli.{specs.Shapes.command_of_words, proofs.Lemmas.{too_many_words, map-single}},
}
use Rattle.um_cli.proofs.words.Words.command.Goals as goal

pub returns-in-len1 : goal.returns-in-len1
returns-in-len1 c =
    let words_are : c.args.self.now ≡ c.as_str.result.now ∷ [] =
    sym c.self.view_is
    ∙ ap (map (λ word. word.bytes)) (sym c.as_slice.ensures.value)
    ∙ map-single (λ word. word.bytes) c.as_slice.result.now c.word-item.result c.in-len1.len_at_least c.in-len1.len_below
    ∙ ap (λ word. word.bytes ∷ []) (sym c.word-item.is)
    ∙ ap (λ word. word ∷ []) (sym c.as_str.ensures.value) in
    record { command = c.one_word_command.ensures.command ∙ ap command_of_words (sym words_are); fits = c.one_word_command.ensures.fits }

pub returns-in_default-2-clause-command : goal.returns-in_default-2-clause-command
returns-in_default-2-clause-command c =
    let words_are = sym c.self.view_is ∙ ap (map (λ word. word.bytes)) (sym c.as_slice.ensures.value) in
    too_many_words c.args.self.now (simp (words_are, length-map) c.in_default.len_at_least)
