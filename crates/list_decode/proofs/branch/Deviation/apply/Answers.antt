use Rattle.{std.proofs.Common.◌∙◌, list_decode.proofs.Spans.{chosen_behind, word_of_deviation-written}}
use Rattle.list_decode.proofs.branch.Deviation.apply.Goals as goal

pub apply_deviation-requires-clause-chosen : goal.apply_deviation-requires-clause-chosen
apply_deviation-requires-clause-chosen c = chosen_behind _ _ _ c.requires.pass c.requires.list c.requires.deviation

pub returns : goal.returns
returns c = c.apply_deviation.ensures ∙ word_of_deviation-written _ _ _ c.requires.pass c.requires.list c.requires.deviation
