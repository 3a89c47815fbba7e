use Rattle.{std.proofs.Common.refl, um_link.specs.Naming.{spec_role_of, spec_request_of}}
use Rattle.um_air.specs.lapdm_link.Events as E
use Rattle.um_link.proofs.links.WorldState.carry_out_event.Goals as goal

pub returns-in-Open-clause-step : goal.returns-in-Open-clause-step
returns-in-Open-clause-step g c = rw c.in-Open.is (c.ask.ensures.step (E.Open c.in-Open.info.now) (refl, refl, refl))

pub returns-in-OpenBare-clause-step : goal.returns-in-OpenBare-clause-step
returns-in-OpenBare-clause-step g c =
    rw c.in-OpenBare.is (c.ask-in-OpenBare.ensures.step (E.OpenBare (spec_role_of c.in-OpenBare.end)) (refl, refl, refl))

pub returns-in-End-clause-step : goal.returns-in-End-clause-step
returns-in-End-clause-step g c =
    let event = E.Ask (spec_role_of c.in-End.end) c.in-End.sapi (spec_request_of c.in-End.call) in
    rw c.in-End.is (c.ask-in-End.ensures.step event (refl, refl, c.as_endpoint_call.ensures.same))

pub returns-in-Air-clause-step : goal.returns-in-Air-clause-step
returns-in-Air-clause-step g c = rw c.in-Air.is (rw c.sender.ensures at c.deliver_or_lose.ensures.step)

pub returns-in-Rival-clause-step : goal.returns-in-Rival-clause-step
returns-in-Rival-clause-step g c = rw c.in-Rival.is c.rival.ensures.step
