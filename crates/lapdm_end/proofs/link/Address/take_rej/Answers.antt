use Rattle.{lapdm_window.specs.Rules.{answers_poll, resends_outstanding_segment}, lapdm_end.proofs.Lemmas.Gives-then}
use Rattle.lapdm_end.proofs.link.Address.take_rej.Goals as goal

pub returns-clause-refines : goal.returns-clause-refines
returns-clause-refines c e h =
    Gives-then resends_outstanding_segment
    (Gives-then (answers_poll c.args.poll) (c.evaluate_nr.ensures.refines e h) c.answer_poll.ensures.refines)
    c.resend_outstanding_segment.ensures.refines
