use Rattle.um_cipher.proofs.Lemmas.{received_as_sent}
use Rattle.um_cipher.proofs.laws.law_ciphered_bits_are_received_as_sent.Goals as goal

pub returns : goal.returns
returns c = received_as_sent
