use Rattle.um_c.proofs.bursts.um_send_sync.Goals as goal

pub returns-clause-only : goal.returns-clause-only
returns-clause-only c = λ _ other sent.
    c.send_sync.ensures.only other (rw c.in-Some.ensures.value sent)
