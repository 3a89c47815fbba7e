use Rattle.std.proofs.Common.{pos}
use Rattle.half_bursts.specs.Halves.{joined_block}
use Rattle.um_erasing.specs.Erasing.{wrong_training_of_bursts}
use Rattle.um_c.proofs.FacchReports.{accepted_report, joined_received}
use Rattle.um_c.proofs.Limits.{least_tried}
use Rattle.um_c.specs.SlotCalls.{tried}
use Rattle.um_c.proofs.facch_erasing.write_limited_facch_report.Goals as goal

pub returns-in-Some : goal.returns-in-Some
returns-in-Some c =
    let first = c.receive_carried-first in
    let other = joined_received c.args.bursts.now in
    let wrong = wrong_training_of_bursts (joined_block (pos 0) c.args.bursts.now) other.0.tsc in
    record {
      tsc = other.0.tsc;
      detected = other.1.tsc;
      reported = accepted_report c.args.bursts.now c.args.block.now (tried c.args.limit wrong c.args.most 1)
          (tried c.args.limit wrong c.args.erasures 0) first.result first.new.wrong_training _
          c.block_report_of.result (least_tried c.args.limit wrong c.args.most c.requires.some_words) first.ensures.received
          first.ensures.wrong c.in-Some.is c.requires.joined c.block_report_of.ensures;
    }

pub returns-in-None : goal.returns-in-None
returns-in-None c = record {
  tsc = c.detect_training.result.tsc;
  detected = rw c.requires.joined at c.detect_training.ensures.tsc;
  reported =
      rw (
        c.tried_words-most.ensures,
        c.tried_erasures-erasures.ensures,
        c.three_best-three.ensures,
        c.detect_training.ensures.wrong,
        c.requires.joined,
      ) at c.later_facch_report_of-later.ensures;
}
