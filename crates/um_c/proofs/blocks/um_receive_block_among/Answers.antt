use Rattle.{
  std.proofs.Common.{sym, ◌∙◌, ap, subst, rules, List, ℕ},
  um_block.specs.conv_code.Likelihood.RanksAfter,
  um_list_receive.{
    specs.declared.reports.ListDecodedBlock.ListDecodedBlock,
    proofs.Lemmas.{one_block_among, block_best, block_none, block_information, block_first},
  },
  um_c.{specs.Reports.ReportsBlock, proofs.Calls.{IsFlagged-some, IsFlagged-none, equal_reports}},
}
use Rattle.um_c.proofs.blocks.um_receive_block_among.Goals as goal

pub block_report_of-requires-clause-information : goal.block_report_of-requires-clause-information
block_report_of-requires-clause-information c = block_information _ _ _
    c.receive_deinterleaved_among-among.ensures

pub returns-clause-best : goal.returns-clause-best
returns-clause-best c = λ _ one soft v deinterleaved candidate holds other.
    let output = c.block_report_of.ensures in
    let among = c.receive_deinterleaved_among-among.result in
    let some = IsFlagged-some among.report.accepted c.block_report_of.result.accepted c.block_report_of.result.octets output.accepted one in
    subst (λ (u : List ℕ). RanksAfter soft v u) (sym output.word)
    (block_best c.args.bursts.now c.args.most among c.receive_deinterleaved_among-among.ensures some soft v deinterleaved candidate holds
    (λ same. other (same ∙ sym output.word)))

pub returns-clause-none : goal.returns-clause-none
returns-clause-none c = λ _ soft deinterleaved.
    let among = c.receive_deinterleaved_among-among.result in
    let flag = IsFlagged-none among.report.accepted c.block_report_of.result.accepted c.block_report_of.result.octets
    c.block_report_of.ensures.accepted in
    let none = block_none c.args.bursts.now c.args.most among c.receive_deinterleaved_among-among.ensures soft deinterleaved in
    (λ zero. none.0 (flag.0 zero), λ fail. flag.1 (none.1 fail))

pub returns-clause-first : goal.returns-clause-first
returns-clause-first c = λ _ r received some.
    let same = block_first c.args.bursts.now c.args.most c.receive_deinterleaved_among-among.result (search rules)
    c.receive_deinterleaved_among-among.ensures r received some in (
      subst (λ (x : ListDecodedBlock). ReportsBlock c.args.bursts.now x.report c.block_report_of.result) same c.block_report_of.ensures,
      ap (λ (x : ListDecodedBlock). x.rank) same,
    )

pub returns-clause-only : goal.returns-clause-only
returns-clause-only c = λ _ place other h.
    let among = c.receive_deinterleaved_among-among.result in
    let same = one_block_among c.args.bursts.now c.args.most h.received among h.is_received c.receive_deinterleaved_among-among.ensures in (
      cc,
      equal_reports c.args.bursts.now h.is_received.soft h.received.report among.report other _ h.is_received.deinterleaved
          (ap (λ (x : ListDecodedBlock). x.report) same) h.reports_block c.block_report_of.ensures,
    )
