use Rattle.std.proofs.Common.{None, Some, ap, refl, sym, ◌∙◌}
use Rattle.um_erasing.specs.Erasing.{wrong_training_of_bursts}
use Rattle.um_erasing.proofs.Lemmas.{later_decoded, searched}
use Rattle.um_list_receive.specs.ListDecoding.{BlockCrcHolds}
use Rattle.um_list_receive.proofs.Lemmas.{block_first_word, octets_if_crc_holds, taken_information}
use Rattle.um_erasing.proofs.blocks.receive_later_erasing.Goals as goal

pub receive_later_among-block-requires-clause-best : goal.receive_later_among-block-requires-clause-best
receive_later_among-block-requires-clause-best c =
    (block_first_word _ _ c.args.soft.now c.requires.first c.requires.deinterleaved).0

pub receive_later_among-block-requires-clause-metric : goal.receive_later_among-block-requires-clause-metric
receive_later_among-block-requires-clause-metric c =
    (block_first_word _ _ c.args.soft.now c.requires.first c.requires.deinterleaved).1

pub returns-in-Some-clause-information : goal.returns-in-Some-clause-information
returns-in-Some-clause-information c =
    let block = c.receive_later_among-block.result in
    taken_information BlockCrcHolds c.args.soft.now c.args.max_rank octets_if_crc_holds block.rank block.report.u block.report.accepted
    c.receive_later_among-block.ensures.choice

pub returns-in-Some-search-clause-received : goal.returns-in-Some-search-clause-received
returns-in-Some-search-clause-received c =
    let r = c.receive_later_among-block.ensures in
    searched c.args.bursts.now c.args.max_rank c.args.erasures c.receive_later_among-block.result c.args.wrong_training
    c.distrust_of.result (Some c.in-Some-search.found) c.in-Some-search.found.block (Some c.in-Some-search.found.erased)
    (later_decoded c.args.bursts.now c.args.soft.now c.args.max_rank c.args.first.now c.receive_later_among-block.result
    c.requires.deinterleaved c.requires.first r.choice r.metric r.training)
    (c.requires.wrong ∙ ap (wrong_training_of_bursts c.args.bursts.now) (sym r.training.0))
    c.in-None.is
    c.distrust_of.ensures c.in-Some-search.ensures.found (refl, refl)

pub returns-in-None-search-clause-received : goal.returns-in-None-search-clause-received
returns-in-None-search-clause-received c =
    let r = c.receive_later_among-block.ensures in
    searched c.args.bursts.now c.args.max_rank c.args.erasures c.receive_later_among-block.result c.args.wrong_training
    c.distrust_of.result None c.receive_later_among-block.result None
    (later_decoded c.args.bursts.now c.args.soft.now c.args.max_rank c.args.first.now c.receive_later_among-block.result
    c.requires.deinterleaved c.requires.first r.choice r.metric r.training)
    (c.requires.wrong ∙ ap (wrong_training_of_bursts c.args.bursts.now) (sym r.training.0))
    c.in-None.is
    c.distrust_of.ensures c.in-None-search.ensures.found (refl, refl)
