use Rattle.{
  std.proofs.{Common.ap, lemmas.Result.on_ok_weaker},
  um_air.specs.lapdm_window.Calls.endpoint_call_of,
  lapdm_end.proofs.Lemmas.represents_at,
  um_link.{specs.Naming.spec_role_of, proofs.Lemmas.{mobile-step, network-step}},
}
use Rattle.um_air.specs.lapdm_window.Sides as D
use Rattle.um_link.proofs.ends.BothSides.ask.Goals as goal

pub returns-in-Mobile-clause-refusal : goal.returns-in-Mobile-clause-refusal
returns-in-Mobile-clause-refusal c es st =
    rw c.in-Mobile.is (c.call.ensures.refusal _ (represents_at c.args.sapi c.args.self.now.mobile es.mobile st.mobile))

pub returns-in-Mobile-clause-refines : goal.returns-in-Mobile-clause-refines
returns-in-Mobile-clause-refines c = on_ok_weaker c.call.result
    (λ f es st. mobile-step _ (D.layer3_call_step c.args.sapi (endpoint_call_of c.args.call.now)) _ _ _ es st _
    (ap spec_role_of c.in-Mobile.is) f)
    c.call.ensures.refines

pub returns-in-Network-clause-refusal : goal.returns-in-Network-clause-refusal
returns-in-Network-clause-refusal c es st = rw c.in-Network.is
    (c.call-in-Network.ensures.refusal _ (represents_at c.args.sapi c.args.self.now.network es.network st.network))

pub returns-in-Network-clause-refines : goal.returns-in-Network-clause-refines
returns-in-Network-clause-refines c = on_ok_weaker c.call-in-Network.result
    (λ f es st. network-step _ (D.layer3_call_step c.args.sapi (endpoint_call_of c.args.call.now)) _ _ _ es st _
    (ap spec_role_of c.in-Network.is)
    c.requires.on f) c.call-in-Network.ensures.refines
