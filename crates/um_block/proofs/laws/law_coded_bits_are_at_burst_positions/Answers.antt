use Rattle.um_block.proofs.WrongBits.{sent_place, received_place}
use Rattle.um_block.proofs.laws.law_coded_bits_are_at_burst_positions.Goals as goal

pub returns : goal.returns
returns c = record { sent = sent_place; received = received_place }
