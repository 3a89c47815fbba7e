use Rattle.fire_code.proofs.Lemmas.{one_sch_crc, sch_word}
use Rattle.fire_code.proofs.sch.sch_parity.Goals as goal

pub returns-clause-word : goal.returns-clause-word
returns-clause-word c =
    rw (← c.as_slice.ensures.value) (sch_word _ _ c.as_slice.ensures.count c.as_slice.ensures.bits (assumption))

pub returns-clause-only : goal.returns-clause-only
returns-clause-only c p word =
    one_sch_crc _ p _ (rw c.as_slice.ensures.value at c.as_slice.ensures.count) word (returns-clause-word c)
