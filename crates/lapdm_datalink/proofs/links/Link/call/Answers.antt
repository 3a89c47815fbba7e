use Rattle.std.proofs.Common.{◌∙◌, refl}
use Rattle.lapdm_end.specs.lapdm_window.Ends.{initial_endpoint}
use Rattle.lapdm_datalink.specs.Links.{link_with}
use Rattle.lapdm_datalink.specs.Abstraction.{role_of, sapi_of, channel_of}
use Rattle.lapdm_datalink.proofs.Lemmas.{never_err}
use Rattle.lapdm_datalink.proofs.links.Link.call.Goals as goal

pub returns-then-is_reopened_by_call-clause-refused : goal.returns-then-is_reopened_by_call-clause-refused
returns-then-is_reopened_by_call-clause-refused c =
    let old = c.args.self.now in
    let fresh = link_with (initial_endpoint (role_of old) (sapi_of old) (channel_of old)) old.t200 in
    never_err _ c.call_endpoint.result (c.call_endpoint.ensures.refusal fresh c.restart.ensures.fresh
    ∙ (rw (c.is_reopened_by_call.ensures.opens c.if-is_reopened_by_call.true) refl))
