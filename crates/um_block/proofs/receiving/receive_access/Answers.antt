use Rattle.{
  burst_map.specs.AccessBurst.body,
  std.proofs.Common.rules,
  um_block.proofs.{SoftenedBits.AllSoftBits-range, Restoring.{clean_access, restored_access}, ReceivedBursts.one_received_access},
}
use Rattle.um_block.proofs.receiving.receive_access.Goals as goal

pub decode-metric-requires-clause-soft : goal.decode-metric-requires-clause-soft
decode-metric-requires-clause-soft c =
    rw (c.body.ensures.value, c.new-parts.ensures.value) (AllSoftBits-range c.args.burst.now 49 85 c.requires)

pub returns-clause-received : goal.returns-clause-received
returns-clause-received c = search rules

pub returns-clause-only : goal.returns-clause-only
returns-clause-only c other h = one_received_access c.args.burst.now c.args.bsic.now other _ h (returns-clause-received c)

pub returns-clause-clean : goal.returns-clause-clean
returns-clause-clean c info sent s same = clean_access info c.args.bsic.now sent _ s (rw same at (returns-clause-received c))

pub returns-clause-restores : goal.returns-clause-restores
returns-clause-restores c info d code damage =
    restored_access c.args.burst.now info c.args.bsic.now d _
    (rw (c.body.ensures.value, c.new-parts.ensures.value) at c.body.ensures.count) code damage (returns-clause-received c)
