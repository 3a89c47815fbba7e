use Rattle.um_c.proofs.FacchReports.{accepted_report}
use Rattle.um_c.proofs.facch_erasing.write_facch_report.Goals as goal

pub returns-in-Some : goal.returns-in-Some
returns-in-Some c =
    let first = c.receive_carried-first in
    accepted_report c.args.bursts.now c.join-block.result c.args.most c.args.erasures first.result first.new.wrong_training _
    c.block_report_of.result c.requires.some_words first.ensures.received first.ensures.wrong c.in-Some.is
    c.join-block.ensures.value c.block_report_of.ensures
