use Rattle.std.proofs.Common.{None, refl}
use Rattle.um_erasing.proofs.Lemmas.{accepted_at_once}
use Rattle.um_c.proofs.erasing.write_erasing_report.Goals as goal

pub returns-in-Some : goal.returns-in-Some
returns-in-Some c =
    let first = c.receive_first-first.result in
    let wrong = c.receive_first-first.new.wrong_training in
    record {
      received = record {
        block = record { report = first; rank = 1 };
        erased = None;
        wrong_training = wrong;
      };
      is_received = accepted_at_once c.args.bursts.now c.args.most c.args.erasures first wrong _
          c.requires.at_least c.receive_first-first.ensures.received c.receive_first-first.ensures.wrong c.in-Some.is;
      soft = c.deinterleave_block-soft.result;
      deinterleaved = c.deinterleave_block-soft.ensures.deinterleaved;
      reports_block = c.block_report_of.ensures;
      same_rank = refl;
      wrong_training = refl;
      erased = refl;
    }
