-- How a `DataLink` represents the state of a data link.
use Rattle.std.specs.Prelude.{◌≡◌}
use Rattle.lapdm_frame.specs.declared.Channel.{Channel}
use Rattle.lapdm_end.specs.lapdm_window.Ends.{Role}
use Rattle.lapdm_end.specs.lapdm_window.declared.Sapi.{Sapi}
use Rattle.lapdm_end.specs.lapdm_window.declared.Sapi.TheVariants.{Zero, Three}
use Rattle.lapdm_datalink.specs.declared.links.Link.{Link}
use Rattle.lapdm_datalink.specs.declared.data_links.DataLink.{DataLink}
use Rattle.lapdm_datalink.specs.DataLinks.{DataLinkState, IsDataLink}
use Rattle.lapdm_datalink.specs.Abstraction as L

-- the link that a Rust `DataLink` has for this SAPI
abbrev pub link_of : Sapi → DataLink → Link
link_of Zero m = m.link0
link_of Three m = m.link3

-- the other SAPI: 3 for 0, and 0 for 3
abbrev pub other : Sapi → Sapi
other Zero = Three
other Three = Zero

-- the role and the channel of both links
abbrev pub role_of : DataLink → Role
role_of m = L.role_of m.link0

abbrev pub channel_of : DataLink → Channel
channel_of m = L.channel_of m.link0

-- the Rust data link `m` represents the data link `s`
pub record Represents (m : DataLink) (s : DataLinkState) : Type 0 where
  pub valid : IsDataLink s
  pub link0 : L.Represents m.link0 s.link0
  pub link3 : L.Represents m.link3 s.link3
  pub heard_sapi0 : m.heard_sapi0 ≡ s.heard_sapi0
  pub is_main_established : m.is_main_established ≡ s.is_main_established
