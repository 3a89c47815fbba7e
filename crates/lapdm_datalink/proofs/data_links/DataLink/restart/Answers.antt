use Rattle.lapdm_end.specs.lapdm_window.declared.Sapi.TheVariants.{Zero, Three}
use Rattle.lapdm_datalink.proofs.Lemmas.{replaced, same_afresh}
use Rattle.lapdm_datalink.proofs.data_links.DataLink.restart.Goals as goal

pub returns-in-Zero-clause-represents : goal.returns-in-Zero-clause-represents
returns-in-Zero-clause-represents c s h = rw c.in-Zero.is (record {
  valid = replaced Zero _ s h.valid (same_afresh s.link0);
  link0 = c.restart.ensures.represents s.link0 h.link0;
  link3 = h.link3;
  heard_sapi0 = h.heard_sapi0;
  is_main_established = h.is_main_established;
})

pub returns-in-Three-clause-represents : goal.returns-in-Three-clause-represents
returns-in-Three-clause-represents c s h = rw c.in-Three.is (record {
  valid = replaced Three _ s h.valid (same_afresh s.link3);
  link0 = h.link0;
  link3 = c.restart-in-Three.ensures.represents s.link3 h.link3;
  heard_sapi0 = h.heard_sapi0;
  is_main_established = h.is_main_established;
})
