use Rattle.training_seq.proofs.Lemmas.{AllBits-midamble}
use Rattle.training_seq.proofs.sequences.sequence.Goals as goal

pub returns-clause-bits : goal.returns-clause-bits
returns-clause-bits c = AllBits-midamble c.args.tsc c.requires
