use Rattle.{
  std.proofs.Common.{◌≡◌, sym, ap, ◌∙◌, true},
  lapdm_window.specs.Rules.{has_segment_to_send, sends_next_segment, answers_segment},
  lapdm_end.proofs.Lemmas.{answers-next, Gives-as, Gives-then, Gives-next},
}
use Rattle.lapdm_end.proofs.link.Address.answer_segment.Goals as goal

pub returns-then-p-clause-refines : goal.returns-then-p-clause-refines
returns-then-p-clause-refines c e h =
    Gives-as (ap (λ p. answers_segment p e) c.if-p.true)
    (Gives-then sends_next_segment (c.send_rr.ensures.refines e h) c.send_next.ensures.refines)

pub returns-then-send_next-clause-refines : goal.returns-then-send_next-clause-refines
returns-then-send_next-clause-refines c e h =
    let yes : has_segment_to_send e ≡ true = sym (c.if-send_next.ensures.answer e h.window) in
    Gives-as (ap (λ p. answers_segment p e) c.if-p.false ∙ answers-next e h.state yes)
    (Gives-next e h yes (c.if-send_next.ensures.sent e h.window) c.send_outstanding_segment.ensures.refines)
