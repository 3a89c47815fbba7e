use Rattle.lapdm_repeats.proofs.Repeats.{changes_nothing}
use Rattle.lapdm_repeats.proofs.laws.law_rr_that_acknowledges_nothing_changes_nothing.Goals as goal

pub returns : goal.returns
returns c = changes_nothing
