use Rattle.um_list_receive.specs.ListDecoding.{IsListDecodedBlock}
use Rattle.um_erasing.proofs.Lemmas.{found_later, found_now}
use Rattle.um_erasing.proofs.blocks.+search.Goals as goal

pub returns-in-Some-clause-found : goal.returns-in-Some-clause-found
returns-in-Some-clause-found t c =
    rw c.index_of_greatest-index.ensures.value
    (found_now 3 (λ rest d. IsListDecodedBlock rest c.args.max_rank d) c.args.bursts.now c.args.count c.args.distrust
    c.if-count-eq0.false _
    (rw (c.without_burst.ensures.value, c.index_of_greatest-index.ensures.value) at c.receive_block_among-decoded.ensures.received) _
    c.in-Some.is)

pub returns-in-None-clause-found : goal.returns-in-None-clause-found
returns-in-None-clause-found t c =
    found_later 3 (λ rest d. IsListDecodedBlock rest c.args.max_rank d) c.args.bursts.now c.args.count c.args.distrust
    c.if-count-eq0.false _
    (rw (c.without_burst.ensures.value, c.index_of_greatest-index.ensures.value) at c.receive_block_among-decoded.ensures.received) _
    c.in-None.is (rw (c.from.ensures, c.index_of_greatest-index.ensures.value) at c.search.ensures.found)
