use Rattle.{std.proofs.lemmas.List.Splits.join_with_byte-slice_split, um_lines.proofs.Texts.{words-join, words-no_spaces}}
use Rattle.um_lines.proofs.words.law_words_join_to_line.Goals as goal

pub returns-clause-whole : goal.returns-clause-whole
returns-clause-whole c _ = join_with_byte-slice_split 32 _

pub returns-clause-no_spaces : goal.returns-clause-no_spaces
returns-clause-no_spaces c = words-no_spaces

pub returns-clause-only : goal.returns-clause-only
returns-clause-only c = words-join
