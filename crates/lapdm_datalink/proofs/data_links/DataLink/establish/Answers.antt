use Rattle.std.proofs.Common.{sym, ◌∙◌}
use Rattle.lapdm_end.specs.lapdm_window.declared.Sapi.TheVariants.{Zero, Three}
use Rattle.lapdm_datalink.proofs.Lemmas.{on_ok_known, replaced, same_after_establishment}
use Rattle.lapdm_datalink.proofs.data_links.DataLink.establish.Goals as goal

pub returns-in-Zero-clause-done : goal.returns-in-Zero-clause-done
returns-in-Zero-clause-done c =
    on_ok_known c.establish.result (λ ok f. rw c.in-Zero.is (λ s h. record {
      valid = replaced Zero _ s h.valid
          (same_after_establishment s.link0 h.link0.endpoint.valid (sym (c.establish.ensures.refusal s.link0 h.link0) ∙ ok));
      link0 = f s.link0 h.link0;
      link3 = h.link3;
      heard_sapi0 = h.heard_sapi0;
      is_main_established = h.is_main_established;
    })) c.establish.ensures.done

pub returns-in-Three-clause-refusal : goal.returns-in-Three-clause-refusal
returns-in-Three-clause-refusal c s h = rw c.in-Three.is (c.establish-in-Three.ensures.refusal s.link3 h.link3)

pub returns-in-Three-clause-done : goal.returns-in-Three-clause-done
returns-in-Three-clause-done c =
    on_ok_known c.establish-in-Three.result (λ ok f. rw c.in-Three.is (λ s h. record {
      valid = replaced Three _ s h.valid
          (same_after_establishment s.link3 h.link3.endpoint.valid (sym (c.establish-in-Three.ensures.refusal s.link3 h.link3) ∙ ok));
      link0 = h.link0;
      link3 = f s.link3 h.link3;
      heard_sapi0 = h.heard_sapi0;
      is_main_established = h.is_main_established;
    })) c.establish-in-Three.ensures.done
