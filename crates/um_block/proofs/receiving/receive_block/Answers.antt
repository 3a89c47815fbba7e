use Rattle.{std.proofs.Common.rules, um_block.proofs.{ReceivedBursts.one_received_block, Restoring.{clean_block, restored_block}}}
use Rattle.um_block.proofs.receiving.receive_block.Goals as goal

pub returns-clause-received : goal.returns-clause-received
returns-clause-received c = search rules

pub returns-clause-only : goal.returns-clause-only
returns-clause-only c other h = one_received_block c.args.bursts.now other _ h (returns-clause-received c)

pub returns-clause-clean : goal.returns-clause-clean
returns-clause-clean c octets tsc sent s same = clean_block octets tsc sent _ s (rw same at (returns-clause-received c))

pub returns-clause-restores : goal.returns-clause-restores
returns-clause-restores c octets d soft code deinterleaved damage =
    restored_block c.args.bursts.now octets d soft _ code deinterleaved damage (returns-clause-received c)
