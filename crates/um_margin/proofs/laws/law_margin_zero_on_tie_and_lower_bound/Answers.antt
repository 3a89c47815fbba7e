use Rattle.um_margin.proofs.Lemmas.{zero_margin_is_tie, hard_margin_law}
use Rattle.um_margin.proofs.laws.law_margin_zero_on_tie_and_lower_bound.Goals as goal

pub returns : goal.returns
returns c = record { tie = zero_margin_is_tie; hard = hard_margin_law }
