use Rattle.segmenting.proofs.Lemmas.{messages-push, delivered_is_completed}
use Rattle.segmenting.proofs.laws.law_segment_delivers_completed_message.Goals as goal

pub returns-clause-messages : goal.returns-clause-messages
returns-clause-messages c = messages-push

pub returns-clause-delivered_is_completed : goal.returns-clause-delivered_is_completed
returns-clause-delivered_is_completed c = delivered_is_completed
