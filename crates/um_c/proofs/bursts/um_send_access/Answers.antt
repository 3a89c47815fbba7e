use Rattle.um_c.proofs.bursts.um_send_access.Goals as goal

pub returns-clause-only : goal.returns-clause-only
returns-clause-only c = λ _ other sent.
    c.send_access.ensures.only other
    (rw (c.in-Some.ensures.value, c.in-Some-from_slice.ensures.value) sent)
