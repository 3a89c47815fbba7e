use Rattle.std.proofs.Common.{ap, ◌∙◌}
use Rattle.um_margin.{proofs.Lemmas.deinterleaved-only, specs.Compared.compared_words}
use Rattle.um_margin.proofs.command.compare_block.Goals as goal

pub returns : goal.returns
returns c =
    c.compare_words.ensures.value ∙ ap compared_words (deinterleaved-only _ _ c.deinterleave_block.ensures.deinterleaved)
