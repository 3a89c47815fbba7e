use Rattle.std.proofs.Common.{None, Some, ap, refl, sym, ◌∙◌}
use Rattle.um_facch.specs.Training.{wrong_training_of_each}
use Rattle.um_facch.proofs.Lemmas.{first_word, later}
use Rattle.um_erasing.proofs.ErasingFacch.{first_accepted_facch, searched_facch}
use Rattle.um_list_receive.specs.ListDecoding.{BlockCrcHolds}
use Rattle.um_list_receive.proofs.Lemmas.{octets_if_crc_holds, taken_information}
use Rattle.um_erasing.proofs.facch.receive_later_facch_erasing.Goals as goal

pub receive_later_among-block-requires-clause-best : goal.receive_later_among-block-requires-clause-best
receive_later_among-block-requires-clause-best c =
    (first_word c.args.bursts.now c.args.first.now c.args.soft.now c.requires.first c.requires.carried).0

pub receive_later_among-block-requires-clause-metric : goal.receive_later_among-block-requires-clause-metric
receive_later_among-block-requires-clause-metric c =
    (first_word c.args.bursts.now c.args.first.now c.args.soft.now c.requires.first c.requires.carried).1

pub returns-in-Some-clause-received : goal.returns-in-Some-clause-received
returns-in-Some-clause-received c =
    let r = c.receive_later_among-block.ensures in
    first_accepted_facch c.args.bursts.now c.args.max_rank c.args.erasures c.receive_later_among-block.result c.args.wrong_training _
    (later c.args.bursts.now c.args.soft.now c.args.max_rank c.args.first.now c.receive_later_among-block.result
    c.requires.carried c.requires.first r.choice r.metric r.training)
    (c.requires.wrong ∙ ap (wrong_training_of_each c.args.bursts.now) (sym r.training.0))
    c.in-Some.is

pub returns-in-Some-clause-information : goal.returns-in-Some-clause-information
returns-in-Some-clause-information c =
    let block = c.receive_later_among-block.result in
    taken_information BlockCrcHolds c.args.soft.now c.args.max_rank octets_if_crc_holds block.rank block.report.u block.report.accepted
    c.receive_later_among-block.ensures.choice

pub returns-in-Some-search_facch-clause-received : goal.returns-in-Some-search_facch-clause-received
returns-in-Some-search_facch-clause-received c =
    let r = c.receive_later_among-block.ensures in
    searched_facch c.args.bursts.now c.args.max_rank c.args.erasures c.receive_later_among-block.result c.args.wrong_training
    c.distrust_of_eight.result (Some c.in-Some-search_facch.found) c.in-Some-search_facch.found.block
    (Some c.in-Some-search_facch.found.erased)
    (later c.args.bursts.now c.args.soft.now c.args.max_rank c.args.first.now c.receive_later_among-block.result
    c.requires.carried c.requires.first r.choice r.metric r.training)
    (c.requires.wrong ∙ ap (wrong_training_of_each c.args.bursts.now) (sym r.training.0))
    c.in-None.is
    c.distrust_of_eight.ensures c.in-Some-search_facch.ensures.found (refl, refl)

pub returns-in-None-search_facch-clause-received : goal.returns-in-None-search_facch-clause-received
returns-in-None-search_facch-clause-received c =
    let r = c.receive_later_among-block.ensures in
    searched_facch c.args.bursts.now c.args.max_rank c.args.erasures c.receive_later_among-block.result c.args.wrong_training
    c.distrust_of_eight.result None c.receive_later_among-block.result None
    (later c.args.bursts.now c.args.soft.now c.args.max_rank c.args.first.now c.receive_later_among-block.result
    c.requires.carried c.requires.first r.choice r.metric r.training)
    (c.requires.wrong ∙ ap (wrong_training_of_each c.args.bursts.now) (sym r.training.0))
    c.in-None.is
    c.distrust_of_eight.ensures c.in-None-search_facch.ensures.found (refl, refl)
