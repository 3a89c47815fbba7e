use Rattle.std.proofs.Common.{sym, ◌∙◌, arith}
use Rattle.lapdm_datalink.proofs.data_links.DataLink.is_data_link.Goals as goal

pub returns : goal.returns
returns c s h g =
    let a = c.is_timed.ensures.0 c.if-not-is_timed.false in (
      λ t. (let b = c.is_timed-2.ensures.0 t in record {
        sapi3 = sym g.endpoint.address.sapi ∙ c.args.self.now.sapi3;
        role = sym g.endpoint.address.role ∙ c.args.self.now.one_role ∙ h.endpoint.address.role;
        channel = sym g.endpoint.address.channel ∙ c.args.self.now.one_channel ∙ h.endpoint.address.channel;
        t200 = λ z. a.0 (h.t200 ∙ z);
        t200_sapi3 = λ z. b.0 (g.t200 ∙ z);
        clock = omega (arith, h.clock, h.t200, a.1);
        clock_sapi3 = omega (arith, g.clock, g.t200, b.1);
      }),
      λ v. c.is_timed-2.ensures.1 (λ z. v.t200_sapi3 (sym g.t200 ∙ z), omega (arith, g.clock, g.t200, v.clock_sapi3)),
    )
