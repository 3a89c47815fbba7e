-- What is known of a data link before a link is restored.
use Rattle.std.specs.Prelude.{◌≡◌, ◌↔◌, Bool, IsTrue, if◌then◌else◌}
use Rattle.lapdm_end.specs.lapdm_window.declared.Sapi.TheVariants.{Three}
use Rattle.lapdm_end.specs.Addresses.{spec_role_of}
use Rattle.lapdm_datalink.specs.DataLinks.{DataLinkState, with_clocks_moved, takes_sapi3}
use Rattle.lapdm_datalink.specs.Links.{LinkState, after_slot}
use Rattle.lapdm_datalink.specs.Parts.{acts_in_slot, IsTimed}
use Rattle.lapdm_datalink.specs.declared.outlook.LinkOutlook.{LinkOutlook}
use Rattle.lapdm_datalink.specs.declared.outlook.Outlook.{Outlook}

-- the outlook is that of the link `l`, whose next slot is not counted if `is_stopped`
pub record IsLinkOutlook (is_stopped : Bool) (o : LinkOutlook) (l : LinkState) : Type 0 where
  pub role : spec_role_of o.role ≡ l.endpoint.role
  pub sapi : o.sapi ≡ l.endpoint.sapi
  pub channel : o.channel ≡ l.endpoint.channel
  pub state : o.state ≡ l.endpoint.state
  pub timed : IsTrue o.is_timed ↔ IsTimed l.t200 l.clock
  pub acts : o.acts ≡ acts_in_slot (if is_stopped then l else after_slot l)

-- two links with these outlooks are those of SAPI 0 and SAPI 3 of one data link: they have the same role and channel, and are timed
pub record AreOfOneDataLink (a b : LinkOutlook) : Type 0 where
  pub sapi3 : b.sapi ≡ Three
  pub role : spec_role_of b.role ≡ spec_role_of a.role
  pub channel : b.channel ≡ a.channel
  pub timed0 : IsTrue a.is_timed
  pub timed3 : IsTrue b.is_timed

-- the outlook is that of the data link `s`: its next slot is the one after its clocks have moved
pub record IsOutlook (o : Outlook) (s : DataLinkState) : Type 0 where
  pub role : spec_role_of o.role ≡ s.link0.endpoint.role
  pub channel : o.channel ≡ s.link0.endpoint.channel
  pub endpoint_sapi : o.endpoint_sapi ≡ s.link0.endpoint.sapi
  pub acts0 : o.acts0 ≡ acts_in_slot (with_clocks_moved s).link0
  pub acts3 : o.acts3 ≡ acts_in_slot (with_clocks_moved s).link3
  pub takes_sapi3 : o.takes_sapi3 ≡ takes_sapi3 s
