use Rattle.{std.proofs.Common.arith, conv_code.proofs.Lemmas.{window_low, window_high}}
use Rattle.conv_code.proofs.packed.straddling_octet.Goals as goal

pub returns-clause-low : goal.returns-clause-low
returns-clause-low c = window_low _ _ (omega arith) (omega arith)

pub returns-clause-high : goal.returns-clause-high
returns-clause-high c = window_high _ _ (omega arith) (omega arith)
