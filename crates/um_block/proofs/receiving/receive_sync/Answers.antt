use Rattle.{
  bit_blocks.specs.SoftValues.IsSoftBit,
  std.proofs.{Common.rules, lemmas.List.Elements.All-append},
  um_block.proofs.{SoftenedBits.AllSoftBits-range, Restoring.{clean_sync, restored_sync}, ReceivedBursts.one_received_sync},
}
use Rattle.um_block.proofs.receiving.receive_sync.Goals as goal

pub decode-metric-requires-clause-soft : goal.decode-metric-requires-clause-soft
decode-metric-requires-clause-soft c =
    rw (c.join_sync_halves-halves.ensures, c.first.ensures.value, c.second.ensures.value, c.new-parts.ensures.value)
    (All-append IsSoftBit _ _ (AllSoftBits-range c.args.burst.now 3 42 c.requires) (AllSoftBits-range c.args.burst.now 106 145 c.requires))

pub returns-clause-received : goal.returns-clause-received
returns-clause-received c = search rules

pub returns-clause-only : goal.returns-clause-only
returns-clause-only c other h = one_received_sync c.args.burst.now other _ h (returns-clause-received c)

pub returns-clause-clean : goal.returns-clause-clean
returns-clause-clean c info sent s same = clean_sync info sent _ s (rw same at (returns-clause-received c))

pub returns-clause-restores : goal.returns-clause-restores
returns-clause-restores c info d code damage =
    let burst = c.new-parts.ensures.value in
    restored_sync c.args.burst.now info d _ (rw (c.first.ensures.value, burst) at c.first.ensures.count)
    (rw (c.second.ensures.value, burst) at c.second.ensures.count) code damage (returns-clause-received c)
