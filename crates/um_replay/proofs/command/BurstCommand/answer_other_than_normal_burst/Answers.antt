use Rattle.{
  std.proofs.Common.{Err, Ok, ap, length, refl, subst, sym, ℤ, List, ◌≡◌, ◌∙◌},
  um_formats.specs.Held.BurstBuffer,
  um_replay.{proofs.Lemmas.{line_answered, line_refused}, specs.BurstRules.burst_rules},
}
use Rattle.um_replay.proofs.command.BurstCommand.answer_other_than_normal_burst.Goals as goal

pub returns-clause-answered : goal.returns-clause-answered
returns-clause-answered g c =
    let (meaning, means, gives) = c.in-Ok.ensures.means in
    let new = c.parse_and_hold_burst.new.held in
    let wrote = c.write_answer.ensures.answer in (
      new.held,
      subst (λ (hs : List (List ℤ)). (burst_rules g.R.Reports.answers).step hs c.args.line.now ≡ Ok (c.write_answer.new.out, new.held))
          c.self.view_is
          (line_answered g.R.Reports.answers c.self.inside.held new c.args.line.now _ meaning c.in-Ok.next means gives wrote),
      refl,
    )

pub returns-in-Err-clause-answered : goal.returns-in-Err-clause-answered
returns-in-Err-clause-answered g c = (
  subst (λ (hs : List (List ℤ)). (burst_rules g.R.Reports.answers).step hs c.args.line.now ≡ Err c.in-Err.fault) c.self.view_is
      (line_refused g.R.Reports.answers c.self.inside.held c.args.line.now c.in-Err.fault (sym c.in-Err.ensures.refused)),
  c.requires,
  ap (λ (s : BurstBuffer). s.held) c.in-Err.ensures.unchanged ∙ c.self.view_is,
)
