use Rattle.std.proofs.Common.{ap, refl, subst, sym, ◌∙◌}
use Rattle.std.specs.Prelude.{IsSome}
use Rattle.um_block.specs.Received.{IsReceivedTsc, wrong_training_bits}
use Rattle.um_list_receive.proofs.Lemmas.{block_at_once, block_first_word}
use Rattle.um_list_receive.proofs.blocks.receive_deinterleaved_among.Goals as goal

pub returns-in-Some : goal.returns-in-Some
returns-in-Some c =
    let some : IsSome c.receive_deinterleaved-report.result.accepted = rw c.in-Some.is refl in
    block_at_once _ _ _ c.requires.at_least c.receive_deinterleaved-report.ensures some

pub receive_later_among-requires-clause-best : goal.receive_later_among-requires-clause-best
receive_later_among-requires-clause-best c =
    (block_first_word _ _ c.args.soft.now c.receive_deinterleaved-report.ensures c.requires.deinterleaved).0

pub receive_later_among-requires-clause-metric : goal.receive_later_among-requires-clause-metric
receive_later_among-requires-clause-metric c =
    (block_first_word _ _ c.args.soft.now c.receive_deinterleaved-report.ensures c.requires.deinterleaved).1

pub returns-in-None : goal.returns-in-None
returns-in-None c =
    let r = c.receive_later_among.ensures in
    let first = c.receive_deinterleaved-report.ensures in
    let bursts = c.args.bursts.now in
    record {
      soft = c.args.soft.now;
      deinterleaved = c.requires.deinterleaved;
      choice = r.choice;
      metric = r.metric;
      tsc = subst (IsReceivedTsc bursts) (sym r.training.0) first.tsc;
      wrong_training = r.training.1 ∙ first.wrong_training ∙ ap (wrong_training_bits bursts) (sym r.training.0);
    }
