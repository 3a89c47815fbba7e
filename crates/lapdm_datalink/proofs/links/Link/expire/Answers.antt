use Rattle.lapdm_end.specs.lapdm_window.Calls.{T200Expires, t200_expiry}
use Rattle.lapdm_link.proofs.lapdm_window.Lemmas.{keeps-call}
use Rattle.lapdm_datalink.proofs.Lemmas.{endpoint_replaced, t200_is_allowed}
use Rattle.lapdm_datalink.proofs.links.Link.expire.Goals as goal

pub returns-in-Ok-clause-represents : goal.returns-in-Ok-clause-represents
returns-in-Ok-clause-represents c l awaits h =
    let r = endpoint_replaced c.args.self.now c.call.new.self l (t200_expiry l.endpoint)
    (keeps-call T200Expires l.endpoint h.endpoint.valid tt (t200_is_allowed l.endpoint awaits)) h
    (c.in-Ok.ensures.refines l.endpoint h.endpoint).0 in
    record {
      endpoint = r.endpoint;
      t200 = r.t200;
      answer = r.answer;
      is_answer = r.is_answer;
      is_sent = r.is_sent;
      clock = h.t200;
      heard = r.heard;
    }
