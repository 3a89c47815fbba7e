use Rattle.std.proofs.Common.{refl}
use Rattle.um_c.proofs.FacchReports.{later_report}
use Rattle.um_c.proofs.facch_erasing.later_facch_report_of.Goals as goal

pub facch_report_of-requires-clause-information : goal.facch_report_of-requires-clause-information
facch_report_of-requires-clause-information c = c.receive_later_facch_erasing-decoded.ensures.information

pub join_without-requires-clause-index : goal.join_without-requires-clause-index
join_without-requires-clause-index c =
    rw c.in-Some.is at c.receive_later_facch_erasing-decoded.ensures.erased

pub facch_report_of-requires-in-Some-clause-information : goal.facch_report_of-requires-in-Some-clause-information
facch_report_of-requires-in-Some-clause-information c = c.receive_later_facch_erasing-decoded.ensures.information

pub returns-in-None : goal.returns-in-None
returns-in-None c =
    let report = c.facch_report_of in
    later_report c.args.bursts.now c.join.result c.args.most c.args.erasures c.receive_later_facch_erasing-decoded.result 8
    report.result.rank report.result.report report.result.erasure c.receive_later_facch_erasing-decoded.ensures.received
    (rw c.in-None.is c.join.ensures.value)
    (rw c.in-None.is refl)
    report.ensures.reports report.ensures.rank report.ensures.erasure

pub returns-in-Some : goal.returns-in-Some
returns-in-Some c =
    let report = c.facch_report_of-in-Some in
    let index = c.in-Some.index in
    later_report c.args.bursts.now c.join_without.result c.args.most c.args.erasures c.receive_later_facch_erasing-decoded.result index
    report.result.rank report.result.report report.result.erasure c.receive_later_facch_erasing-decoded.ensures.received
    (rw c.in-Some.is c.join_without.ensures.value)
    (rw c.in-Some.is refl)
    report.ensures.reports report.ensures.rank report.ensures.erasure
