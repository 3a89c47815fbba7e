use Rattle.um_air.proofs.Lemmas.{accepted_as_sent}
use Rattle.um_air.proofs.law_three_inverted_bits_corrected.Goals as goal

pub returns : goal.returns
returns c = accepted_as_sent
