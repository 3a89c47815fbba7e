use Rattle.um_air.proofs.Lemmas.{damaged_received, flipped_damaged}
use Rattle.um_air.proofs.law_lightly_damaged_block_is_corrected.Goals as goal

pub returns : goal.returns
returns c = record { received = damaged_received; flipped = flipped_damaged }
