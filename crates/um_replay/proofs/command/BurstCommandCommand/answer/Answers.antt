use Rattle.{
  std.proofs.Common.{Ok, ◌≡◌, ℤ, ℕ, List, refl, ap, sym, ◌∙◌, subst},
  um_formats.specs.{declared.burst_lines.BurstLine.TheVariants.Normal, Held.{BurstBuffer, normal_burst_result}},
  um_driver.specs.Rules.IsLineAnswerOrFault,
  um_replay.{
    specs.BurstRules.{burst_rules, answer_to_bursts},
    proofs.{Lemmas.line_answered, command.BurstCommandCommand.answer.Goals.{then-complete, else-complete}},
  },
}
use Rattle.um_replay.proofs.command.BurstCommandCommand.answer.Goals as goal

pub returns-after-complete-clause-answered : goal.returns-after-complete-clause-answered
returns-after-complete-clause-answered g c = λ held same.
    let a = g.R.Reports.answers in
    let new = c.hold_normal_burst.new.held in
    let h = c.in-Some.ensures in
    let wrote : c.if-complete.out ≡ answer_to_bursts a (normal_burst_result c.in-Some.complete) new.slots =
    elim c.if-complete.branch [
      | then-complete w ↦ rw (w.if-complete.true, w.out-is) (w.block-then-complete.ensures.answer ∙ ap a.block w.block.ensures.bursts)
      | else-complete w ↦ rw (w.if-complete.false, w.out-is) c.requires.empty
    ] in (
      new.held,
      subst (λ (hs : List (List ℤ)). (burst_rules a).step hs c.args.line.now ≡ Ok (c.if-complete.out, new.held)) (c.self.view_is
          ∙ same)
          (line_answered a c.self.inside.held new c.args.line.now c.if-complete.out (Normal h.soft)
          (normal_burst_result c.in-Some.complete) h.means (c.in-Some.complete, refl, h.adds_burst) wrote),
      refl,
    )

pub returns-in-None-clause-answered : goal.returns-in-None-clause-answered
returns-in-None-clause-answered g c = λ held same.
    subst (λ (hs : List (List ℤ)). IsLineAnswerOrFault (burst_rules g.R.Reports.answers) hs c.args.line.now
    c.answer_other_than_normal_burst.result
    c.answer_other_than_normal_burst.new.out (λ after. c.answer_other_than_normal_burst.new.self ≡ after))
    (ap (λ (s : BurstBuffer). s.held) c.in-None.ensures.0 ∙ c.self.view_is ∙ same) c.answer_other_than_normal_burst.ensures.answered
