use Rattle.um_cipher.proofs.Lemmas.{twice_nothing, twice_nothing_soft}
use Rattle.um_cipher.proofs.laws.law_ciphering_twice_is_nothing.Goals as goal

pub returns-clause-bits : goal.returns-clause-bits
returns-clause-bits c = twice_nothing

pub returns-clause-soft : goal.returns-clause-soft
returns-clause-soft c = twice_nothing_soft
