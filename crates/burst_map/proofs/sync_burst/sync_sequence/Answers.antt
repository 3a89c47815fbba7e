use Rattle.{std.proofs.Common.refl, training_seq.proofs.bit_blocks.Lemmas.AllBits-table, burst_map.specs.SyncBurst.sync_sequence}
use Rattle.burst_map.proofs.sync_burst.sync_sequence.Goals as goal

pub returns-clause-bits : goal.returns-clause-bits
returns-clause-bits c = AllBits-table sync_sequence refl
