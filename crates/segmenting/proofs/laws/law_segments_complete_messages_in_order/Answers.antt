use Rattle.segmenting.proofs.Lemmas.{messages_ending_in_segments-front, count-whole}
use Rattle.segmenting.proofs.laws.law_segments_complete_messages_in_order.Goals as goal

pub returns-clause-front : goal.returns-clause-front
returns-clause-front c _ ms r h = messages_ending_in_segments-front _ r ms h

pub returns-clause-whole : goal.returns-clause-whole
returns-clause-whole c _ ms r k h = count-whole _ r k ms h
