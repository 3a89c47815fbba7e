use Rattle.{segmenting.{specs.lapdm_frame.Layout.n201, proofs.Lemmas.count-whole}, lapdm_window.proofs.Windows.acked_message_count-most}
use Rattle.lapdm_window.proofs.laws.law_message_acked_iff_segments_acked.Goals as goal

pub returns-clause-most : goal.returns-clause-most
returns-clause-most c = acked_message_count-most

pub returns-clause-whole : goal.returns-clause-whole
returns-clause-whole c e k h = count-whole (n201 e.channel) e.acked_segments k e.messages h
