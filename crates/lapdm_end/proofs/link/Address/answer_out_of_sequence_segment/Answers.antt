use Rattle.{lapdm_window.specs.Rules.sends_next_segment, lapdm_end.proofs.Lemmas.Gives-then}
use Rattle.lapdm_end.proofs.link.Address.answer_out_of_sequence_segment.Goals as goal

pub returns-clause-refines : goal.returns-clause-refines
returns-clause-refines c e h = Gives-then sends_next_segment (c.send_rej.ensures.refines e h) c.send_next.ensures.refines
