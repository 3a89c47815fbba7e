use Rattle.{
  half_bursts.specs.Halves.stolen,
  std.proofs.Common.{ap, sym, ◌∙◌},
  um_facch.proofs.Lemmas.coded_values_of_block,
}
use Rattle.um_facch.proofs.sending.send.Goals as goal

pub returns-clause-sent : goal.returns-clause-sent
returns-clause-sent c = record {
  block = c.send_block.result;
  sent = c.send_block.ensures.sent;
  halves = c.steal.ensures.value;
}

pub returns-clause-only : goal.returns-clause-only
returns-clause-only c other is =
    is.halves ∙ ap (λ block. stolen block c.args.bursts.now) (c.send_block.ensures.only is.block is.sent) ∙ sym c.steal.ensures.value

pub returns-clause-carried : goal.returns-clause-carried
returns-clause-carried c coded code =
    c.steal.ensures.carried coded
    (coded_values_of_block c.args.octets.now coded c.args.tsc c.send_block.result c.send_block.ensures.sent code)
