use Rattle.{
  std.proofs.Common.{rules, ◌≡◌, refl},
  lapdm_window.specs.{declared.State.TheVariants.Open, Ends.EndpointState, Calls.with_queued_message},
  lapdm_end.{
    specs.Windows.RepresentsOpenEndpoint,
    proofs.Lemmas.{same_rules_in_open, Runs-open, refines-open, kept_in_open, unrepeated_in_open},
  },
}
use Rattle.lapdm_end.proofs.ends.Endpoint.send_into.Goals as goal

pub returns-clause-refines : goal.returns-clause-refines
returns-clause-refines c e h =
    let open_now : c.args.self.now.state ≡ Open = search rules in
    let still_open : RepresentsOpenEndpoint c.args.self.now.address c.args.self.now.window e = Runs-open open_now h in
    let f : EndpointState = with_queued_message c.args.message.now e in
    let g = c.send_next.ensures.refines f (same_rules_in_open still_open refl refl refl refl
    (c.in_default.ensures.taken e still_open.window)) in
    refines-open _ open_now h.sabm_info (kept_in_open open_now h) (unrepeated_in_open open_now h) c.clear.ensures.frames
    c.clear.ensures.notices h.address.channel g
