use Rattle.um_make.proofs.Lemmas.{few_inverted-generated}
use Rattle.um_make.proofs.law_generated_session_inverts_few_bits.Goals as goal

pub returns : goal.returns
returns c = few_inverted-generated
