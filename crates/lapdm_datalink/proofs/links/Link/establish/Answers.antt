use Rattle.std.proofs.Common.{sym, ap, ◌∙◌, refl}
use Rattle.lapdm_end.specs.lapdm_window.Ends.{initial_endpoint}
use Rattle.lapdm_end.specs.lapdm_window.declared.Sapi.TheVariants.{Three}
use Rattle.lapdm_datalink.specs.Links.{link_with, as_normal, may_be_established}
use Rattle.lapdm_datalink.specs.Abstraction.{role_of, channel_of}
use Rattle.lapdm_datalink.proofs.Lemmas.{never_err, on_ok_known, found_normal, not_three}
use Rattle.lapdm_datalink.proofs.links.Link.establish.Goals as goal

pub returns-clause-done : goal.returns-clause-done
returns-clause-done c =
    on_ok_known c.call_endpoint.result (λ ok f l h.
    rw (found_normal l (not_three l.endpoint.sapi (λ e. c.in_default.not-Three (c.sapi.ensures.represents l.endpoint h.endpoint ∙ e)))
    (sym (c.may_be_established.ensures ∙ ap may_be_established (c.state.ensures l.endpoint h.endpoint))
    ∙ c.if-not-may_be_established.false))
    (f (as_normal l) (c.restart_as_normal.ensures.represents l h))) c.call_endpoint.ensures.done

pub returns-clause-refused : goal.returns-clause-refused
returns-clause-refused c =
    let old = c.args.self.now in
    let fresh = link_with (initial_endpoint (role_of old) Three (channel_of old)) old.t200 in
    never_err _ c.call_endpoint.result (c.call_endpoint.ensures.refusal fresh c.restart_as_normal.ensures.fresh)
