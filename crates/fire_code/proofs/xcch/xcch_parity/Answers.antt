use Rattle.fire_code.proofs.Lemmas.{one_xcch_crc, xcch_of_remainder}
use Rattle.fire_code.proofs.xcch.xcch_parity.Goals as goal

pub returns-clause-word : goal.returns-clause-word
returns-clause-word c =
    rw (← c.as_slice.ensures.value)
    (xcch_of_remainder c.as_slice.result.now _ c.as_slice.ensures.count c.as_slice.ensures.bits c.remainder.ensures.multiple _
    c.remainder.type_inv c.bits_of.ensures.value)

pub returns-clause-only : goal.returns-clause-only
returns-clause-only c p word =
    one_xcch_crc _ p _ (rw c.as_slice.ensures.value at c.as_slice.ensures.count) word (returns-clause-word c)
