use Rattle.um_end.proofs.EndSteps.{ReceivesBursts-answer_to_block, ReceivesBursts-only}
use Rattle.um_end.proofs.two_ends.law_received_bursts_are_computed.Goals as goal

pub returns : goal.returns
returns c = record { holds = ReceivesBursts-answer_to_block; only = ReceivesBursts-only }
