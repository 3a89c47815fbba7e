use Rattle.std.proofs.Common.{length, ◌-◌}
use Rattle.um_erasing.proofs.ErasingFacch.{Carried}
use Rattle.um_erasing.proofs.Lemmas.{found_later, found_now}
use Rattle.um_erasing.proofs.facch.+search_facch.Goals as goal

pub returns-in-Some-clause-found : goal.returns-in-Some-clause-found
returns-in-Some-clause-found t c =
    rw c.index_of_greatest_below-index.ensures.value
    (found_now (length c.args.bursts.now - 1) (Carried c.args.max_rank) c.args.bursts.now c.args.count c.args.distrust
    c.if-count-eq0.false _ (rw c.index_of_greatest_below-index.ensures.value at c.receive_without-decoded.ensures.decoded) _
    c.in-Some.is)

pub returns-in-None-clause-found : goal.returns-in-None-clause-found
returns-in-None-clause-found t c =
    found_later (length c.args.bursts.now - 1) (Carried c.args.max_rank) c.args.bursts.now c.args.count c.args.distrust
    c.if-count-eq0.false _ (rw c.index_of_greatest_below-index.ensures.value at c.receive_without-decoded.ensures.decoded) _
    c.in-None.is (rw (c.from.ensures, c.index_of_greatest_below-index.ensures.value) at c.search_facch.ensures.found)
