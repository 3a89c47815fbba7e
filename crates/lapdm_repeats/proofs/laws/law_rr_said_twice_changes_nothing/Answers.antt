use Rattle.lapdm_repeats.proofs.Repeats.{second_changes_nothing, second_says_nothing}
use Rattle.lapdm_repeats.proofs.laws.law_rr_said_twice_changes_nothing.Goals as goal

pub returns-clause-link : goal.returns-clause-link
returns-clause-link c = second_changes_nothing

pub returns-clause-notices : goal.returns-clause-notices
returns-clause-notices c = second_says_nothing
