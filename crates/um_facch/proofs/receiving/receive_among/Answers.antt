use Rattle.std.{proofs.Common.refl, specs.Prelude.IsSome}
use Rattle.um_list_receive.specs.declared.reports.ListDecodedBlock.{ListDecodedBlock}
use Rattle.um_facch.specs.Facch.{IsListDecodedFacch}
use Rattle.um_facch.proofs.Lemmas.{at_once, first_taken, first_word, information, later, one_among}
use Rattle.um_facch.proofs.receiving.receive_among.Goals as goal

pub receive_later_among-requires-clause-best : goal.receive_later_among-requires-clause-best
receive_later_among-requires-clause-best c =
    let report = c.receive_carried-report in
    let carried = c.join.ensures.carried c.deinterleave_block-soft.result c.deinterleave_block-soft.ensures.deinterleaved in
    (first_word c.args.bursts.now report.result c.deinterleave_block-soft.result report.ensures.received carried).0

pub receive_later_among-requires-clause-metric : goal.receive_later_among-requires-clause-metric
receive_later_among-requires-clause-metric c =
    let report = c.receive_carried-report in
    let carried = c.join.ensures.carried c.deinterleave_block-soft.result c.deinterleave_block-soft.ensures.deinterleaved in
    (first_word c.args.bursts.now report.result c.deinterleave_block-soft.result report.ensures.received carried).1

pub returns-in-Some : goal.returns-in-Some
returns-in-Some c =
    let report = c.receive_carried-report in
    let some : IsSome report.result.accepted = rw c.in-Some.is refl in
    let made : ListDecodedBlock = record { report = report.result; rank = 1 } in
    let received : IsListDecodedFacch c.args.bursts.now c.args.max_rank made =
    at_once c.args.bursts.now c.args.max_rank report.result c.requires.some_words report.ensures.received some in
    record {
      received = received;
      only = λ other is. one_among c.args.bursts.now c.args.max_rank other made is received;
      information = information c.args.bursts.now c.args.max_rank made received;
      first = first_taken c.args.bursts.now c.args.max_rank made c.requires.some_words received;
    }

pub returns-in-None : goal.returns-in-None
returns-in-None c =
    let report = c.receive_carried-report in
    let carried = c.join.ensures.carried c.deinterleave_block-soft.result c.deinterleave_block-soft.ensures.deinterleaved in
    let r = c.receive_later_among.ensures in
    let received : IsListDecodedFacch c.args.bursts.now c.args.max_rank c.receive_later_among.result =
    later c.args.bursts.now c.deinterleave_block-soft.result c.args.max_rank report.result c.receive_later_among.result carried
    report.ensures.received r.choice r.metric r.training in
    record {
      received = received;
      only = λ other is. one_among c.args.bursts.now c.args.max_rank other c.receive_later_among.result is received;
      information = information c.args.bursts.now c.args.max_rank c.receive_later_among.result received;
      first = first_taken c.args.bursts.now c.args.max_rank c.receive_later_among.result c.requires.some_words received;
    }
