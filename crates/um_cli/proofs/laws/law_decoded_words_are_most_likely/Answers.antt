use Rattle.um_cli.proofs.Lemmas.{decodes_most_likely}
use Rattle.um_cli.proofs.laws.law_decoded_words_are_most_likely.Goals as goal

pub returns : goal.returns
returns c = decodes_most_likely
