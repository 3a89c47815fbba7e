use Rattle.{std.proofs.Common.refl, training_seq.proofs.bit_blocks.Lemmas.AllBits-table, burst_map.specs.AccessBurst.access_sequence}
use Rattle.burst_map.proofs.access_burst.access_sequence.Goals as goal

pub returns-clause-bits : goal.returns-clause-bits
returns-clause-bits c = AllBits-table access_sequence refl
