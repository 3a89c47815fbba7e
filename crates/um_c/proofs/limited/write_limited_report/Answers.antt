use Rattle.std.proofs.Common.{None, refl}
use Rattle.um_erasing.proofs.Lemmas.{accepted_at_once}
use Rattle.um_erasing.specs.Erasing.{wrong_training_of_bursts}
use Rattle.um_c.proofs.Limits.{least_tried}
use Rattle.um_c.specs.SlotCalls.{tried}
use Rattle.um_c.proofs.limited.write_limited_report.Goals as goal

pub returns-in-Some : goal.returns-in-Some
returns-in-Some c =
    let first = c.receive_first-first.result in
    let wrong = c.receive_first-first.new.wrong_training in
    record {
      tsc = first.tsc;
      detected = c.receive_first-first.ensures.received.tsc;
      reported = record {
        received = record {
          block = record { report = first; rank = 1 };
          erased = None;
          wrong_training = wrong;
        };
        is_received = accepted_at_once c.args.bursts.now
            (tried c.args.limit (wrong_training_of_bursts c.args.bursts.now first.tsc) c.args.most 1)
            (tried c.args.limit (wrong_training_of_bursts c.args.bursts.now first.tsc) c.args.erasures 0) first wrong _
            (least_tried c.args.limit (wrong_training_of_bursts c.args.bursts.now first.tsc) c.args.most c.requires.at_least)
            c.receive_first-first.ensures.received c.receive_first-first.ensures.wrong c.in-Some.is;
        soft = c.deinterleave_block-soft.result;
        deinterleaved = c.deinterleave_block-soft.ensures.deinterleaved;
        reports_block = c.block_report_of.ensures;
        same_rank = refl;
        wrong_training = refl;
        erased = refl;
      };
    }

pub returns-in-None : goal.returns-in-None
returns-in-None c = record {
  tsc = c.receive_first-first.result.tsc;
  detected = c.receive_first-first.ensures.received.tsc;
  reported =
      rw (c.tried_words-most.ensures, c.tried_erasures-erasures.ensures, c.three_best-three.ensures, c.receive_first-first.ensures.wrong)
      at c.later_report_of-later.ensures;
}
