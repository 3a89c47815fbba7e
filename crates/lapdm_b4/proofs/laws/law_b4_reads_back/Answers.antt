use Rattle.lapdm_b4.proofs.Lemmas.{reads_back}
use Rattle.lapdm_b4.proofs.laws.law_b4_reads_back.Goals as goal

pub returns : goal.returns
returns c = reads_back
