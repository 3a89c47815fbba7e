use Rattle.std.proofs.Common.{refl, sym, subst}
use Rattle.lapdm_datalink.specs.declared.links.Link.{Link}
use Rattle.lapdm_datalink.specs.DataLinks.{DataLinkState}
use Rattle.lapdm_datalink.specs.Abstraction as L
use Rattle.lapdm_datalink.proofs.data_links.DataLink.restore.Goals as goal

pub returns-clause-represents : goal.returns-clause-represents
returns-clause-represents c t s h = record {
  valid = h.valid;
  link0 = subst (λ (m : Link). L.Represents m s.link0) (sym c.restore_link-2.ensures.others)
      (c.restore_link.ensures.represents c.if-not-restore_link.false s.link0 h.link0);
  link3 = c.restore_link-2.ensures.represents c.if-not-restore_link-2.false s.link3 h.link3;
  heard_sapi0 = h.heard_sapi0;
  is_main_established = h.is_main_established;
}

pub returns-clause-valid : goal.returns-clause-valid
returns-clause-valid c =
    let a = (c.restore_link.ensures.valid.0 c.if-not-restore_link.false).1 in
    let b = (c.restore_link-2.ensures.valid.0 c.if-not-restore_link-2.false).1 in
    let s : DataLinkState = record {
      link0 = a.0;
      link3 = b.0;
      heard_sapi0 = c.args.parts.now.heard_sapi0;
      is_main_established = c.args.parts.now.is_main_established;
    } in (
      λ t. (
        s,
        record {
          valid = (c.is_data_link.ensures s
              (subst (λ (m : Link). L.Represents m a.0) (sym c.restore_link-2.ensures.others)
              (c.restore_link.ensures.represents c.if-not-restore_link.false a.0 a.1))
              (c.restore_link-2.ensures.represents c.if-not-restore_link-2.false b.0 b.1)).0 t;
          link0 = a.1;
          link3 = b.1;
          heard_sapi0 = refl;
          is_main_established = refl;
        },
      ),
      λ h. (c.is_data_link.ensures h.0
          (subst (λ (m : Link). L.Represents m h.0.link0) (sym c.restore_link-2.ensures.others)
          (c.restore_link.ensures.represents c.if-not-restore_link.false h.0.link0 h.1.link0))
          (c.restore_link-2.ensures.represents c.if-not-restore_link-2.false h.0.link3 h.1.link3)).1 h.1.valid,
    )
