use Rattle.{
  std.proofs.Common.{◌≡◌, ap, sym, ◌∙◌},
  um_link_command.{specs.Courses.RadioCounters, proofs.Lemmas.{IsLinkCommandRun-no_memory, IsLinkCommandRun-equal}},
}
use Rattle.um_cli.proofs.link.run_link.Goals as goal

pub returns-in-Ok-clause-run : goal.returns-in-Ok-clause-run
returns-in-Ok-clause-run g c =
    let world_is = c.new-link.ensures.world in
    let represents = c.in-Ok.ensures in
    let left : c.radio-1.given.0 ≡ c.run_link_session.new.link.radio.now =
    c.radio-1.given.1 (sym (c.run_link_session.ensures.same_radio ∙ c.new-link.ensures.same_radio)) in
    IsLinkCommandRun-equal _ c.args.tsc _ c.args.channel _ _ _ _ c.run_link_session.result _ _ _ _ (ap (λ w. w.tsc) world_is
    ∙ represents.tsc)
    (ap (λ w. w.channel) world_is ∙ represents.channel)
    (ap (λ r. let t : RadioCounters = record { sent_blocks = g.R.Radio.sent r; received_blocks = g.R.Radio.heard r } in t)
    c.new-link.ensures.radio)
    (ap (λ r. let t : RadioCounters = record { sent_blocks = g.R.Radio.sent r; received_blocks = g.R.Radio.heard r } in t) (sym left))
    c.run_link_session.ensures.run

pub returns-in-Err-clause-run : goal.returns-in-Err-clause-run
returns-in-Err-clause-run g c = IsLinkCommandRun-no_memory c.args.tsc c.args.channel _ _ _
