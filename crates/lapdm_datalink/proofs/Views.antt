-- Two links that are seen are those of one data link, or not.
use Rattle.{
  std.proofs.Common.{sym, ◌∙◌, false},
  lapdm_datalink.specs.{
    declared.outlook.LinkOutlook.LinkOutlook,
    DataLinks.{DataLinkState, IsDataLink},
    Outlooks.{IsLinkOutlook, AreOfOneDataLink},
  },
}

module _ (a b : LinkOutlook) (s : DataLinkState) (h : IsLinkOutlook false a s.link0) (g : IsLinkOutlook s.heard_sapi0 b s.link3) where
  pub beside : IsDataLink s → AreOfOneDataLink a b
  beside v = record {
    sapi3 = g.sapi ∙ v.sapi3;
    role = g.role ∙ v.role ∙ sym h.role;
    channel = g.channel ∙ v.channel ∙ sym h.channel;
    timed0 = h.timed.1 (v.t200, v.clock);
    timed3 = g.timed.1 (v.t200_sapi3, v.clock_sapi3);
  }

  pub one_data_link : AreOfOneDataLink a b → IsDataLink s
  one_data_link v =
      let t = h.timed.0 v.timed0 in
      let u = g.timed.0 v.timed3 in
      record {
        sapi3 = sym g.sapi ∙ v.sapi3;
        role = sym g.role ∙ v.role ∙ h.role;
        channel = sym g.channel ∙ v.channel ∙ h.channel;
        t200 = t.0;
        t200_sapi3 = u.0;
        clock = t.1;
        clock_sapi3 = u.1;
      }
