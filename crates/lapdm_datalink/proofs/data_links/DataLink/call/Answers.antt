use Rattle.std.proofs.Common.{sym, ◌∙◌}
use Rattle.lapdm_end.specs.lapdm_window.declared.Sapi.TheVariants.{Zero, Three}
use Rattle.lapdm_end.specs.lapdm_window.Calls.{endpoint_call_of}
use Rattle.lapdm_datalink.proofs.Lemmas.{on_ok_known, replaced, same_after_call}
use Rattle.lapdm_datalink.proofs.data_links.DataLink.call.Goals as goal

pub returns-in-Zero-clause-done : goal.returns-in-Zero-clause-done
returns-in-Zero-clause-done c =
    let call = endpoint_call_of c.args.call.now in
    on_ok_known c.call.result (λ ok f. rw c.in-Zero.is (λ s h. record {
      valid = replaced Zero _ s h.valid (same_after_call call s.link0 h.link0.endpoint.valid
          (rw (← h.link0.endpoint.address.role, ← h.link0.endpoint.address.sapi) (rw c.in-Zero.is at c.requires.allowed))
          (sym (c.call.ensures.refusal s.link0 h.link0) ∙ ok));
      link0 = f s.link0 h.link0;
      link3 = h.link3;
      heard_sapi0 = h.heard_sapi0;
      is_main_established = h.is_main_established;
    })) c.call.ensures.done

pub returns-in-Three-clause-done : goal.returns-in-Three-clause-done
returns-in-Three-clause-done c =
    let call = endpoint_call_of c.args.call.now in
    on_ok_known c.call-in-Three.result (λ ok f. rw c.in-Three.is (λ s h. record {
      valid = replaced Three _ s h.valid (same_after_call call s.link3 h.link3.endpoint.valid
          (rw (h.valid.role, ← h.link0.endpoint.address.role, ← h.link3.endpoint.address.sapi) (rw c.in-Three.is at c.requires.allowed))
          (sym (c.call-in-Three.ensures.refusal s.link3 h.link3) ∙ ok));
      link0 = h.link0;
      link3 = f s.link3 h.link3;
      heard_sapi0 = h.heard_sapi0;
      is_main_established = h.is_main_established;
    })) c.call-in-Three.ensures.done
