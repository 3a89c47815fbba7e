use Rattle.um_c.proofs.ErasingReports.{erased_report}
use Rattle.um_c.proofs.erasing.later_report_of.Goals as goal

pub block_report_of-requires-clause-information : goal.block_report_of-requires-clause-information
block_report_of-requires-clause-information c = c.receive_later_erasing-decoded.ensures.information

pub without_burst-rest-requires-clause-index : goal.without_burst-rest-requires-clause-index
without_burst-rest-requires-clause-index c =
    rw c.in-Some.is at c.receive_later_erasing-decoded.ensures.erased

pub block_report_of-requires-in-Some-clause-information : goal.block_report_of-requires-in-Some-clause-information
block_report_of-requires-in-Some-clause-information c = c.receive_later_erasing-decoded.ensures.information

pub returns-in-Some : goal.returns-in-Some
returns-in-Some c =
    erased_report c.args.bursts.now c.without_burst-rest.result c.args.most c.args.erasures c.in-Some.index
    c.receive_later_erasing-decoded.result c.deinterleave_block.result c.block_report_of-in-Some.result
    c.receive_later_erasing-decoded.ensures.received c.in-Some.is c.without_burst-rest.ensures.value
    c.deinterleave_block.ensures.deinterleaved c.block_report_of-in-Some.ensures
