use Rattle.std.proofs.Common.{◌≡◌, None, arith}
use Rattle.lapdm_end.specs.lapdm_window.Calls.{IsCallAllowedForEndpoint, endpoint_call_of, call_outcome, refusal_of}
use Rattle.lapdm_link.proofs.lapdm_window.Lemmas.{keeps-call}
use Rattle.lapdm_datalink.proofs.Lemmas.{outcome_kept}
use Rattle.lapdm_datalink.proofs.Returned.{returns-call}
use Rattle.lapdm_datalink.proofs.links.Link.call_endpoint.Goals as goal

pub returns-in-Ok-clause-done : goal.returns-in-Ok-clause-done
returns-in-Ok-clause-done c l h =
    let call = endpoint_call_of c.args.call.now in
    let allowed : IsCallAllowedForEndpoint l.endpoint call = rw (h.endpoint.address.role, h.endpoint.address.sapi) at c.requires.allowed in
    let ok : refusal_of call l.endpoint ≡ None = grind (arith, c.call.ensures.refusal l.endpoint h.endpoint) in
    outcome_kept c.args.self.now c.keep_all.new.self c.call.new.self c.call.new.effects l (call_outcome call l.endpoint)
    (keeps-call call l.endpoint h.endpoint.valid allowed ok) (returns-call call l.endpoint c.requires.of_link) h
    (c.in-Ok.ensures.refines l.endpoint h.endpoint)
    (rw (c.as_slice.ensures.value) at c.keep_all.ensures.kept)
