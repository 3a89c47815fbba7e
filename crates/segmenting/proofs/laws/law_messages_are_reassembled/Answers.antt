use Rattle.segmenting.proofs.Lemmas.{messages-segments}
use Rattle.segmenting.proofs.laws.law_messages_are_reassembled.Goals as goal

pub returns : goal.returns
returns c = λ channel. messages-segments _
