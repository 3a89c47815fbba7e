use Rattle.{std.proofs.Common.{sym, ◌∙◌}, um_lines.proofs.Texts.{maxima-count, maxima-test}}
use Rattle.um_lines.proofs.hex_values.HexValues.maxima.Goals as goal

pub returns-clause-count : goal.returns-clause-count
returns-clause-count c = maxima-count 16 _ _ c.requires.count c.requires.other

pub returns-clause-test : goal.returns-clause-test
returns-clause-test c = maxima-test _ _ (c.requires.count ∙ sym c.requires.other)
