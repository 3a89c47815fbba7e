-- Normal establishment of small data links: what opens one, and what does not.
use Rattle.std.specs.Prelude.{◌≡◌, Bool, true, false, [], ◌∷◌, None}
use Rattle.std.proofs.Common.{refl}
use Rattle.lapdm_frame.specs.declared.Channel.TheVariants.{Sdcch}
use Rattle.lapdm_frame.specs.Content.{Frame, Sabm}
use Rattle.lapdm_end.specs.lapdm_window.declared.Sapi.TheVariants.{Zero, Three}
use Rattle.lapdm_end.specs.lapdm_window.declared.State.{State}
use Rattle.lapdm_end.specs.lapdm_window.declared.State.TheVariants.{Opening, Open}
use Rattle.lapdm_end.specs.lapdm_window.Ends.{Mobile, Network, initial_endpoint}
use Rattle.lapdm_datalink.specs.declared.data_links.Establishment.{Establishment}
use Rattle.lapdm_datalink.specs.declared.data_links.Establishment.TheVariants.{Contention, Normal}
use Rattle.lapdm_datalink.specs.Links.{LinkState, link_with}
use Rattle.lapdm_datalink.specs.DataLinks.{DataLinkState, initial_data_link, after_arrival}
use Rattle.lapdm_datalink.specs.Slots.{CountsFromZero, IsBareSabm, IsNormalOpening, IsEstablishedAfresh}

abbrev sabm : Bool → Frame
sabm cr = record { sapi = 0; cr = cr; content = Sabm true [] }

-- ---- the network's SABM at a new mobile

abbrev new : Establishment → DataLinkState
new e = initial_data_link Mobile Sdcch e 2 4

is_bare : IsBareSabm (sabm true) (new Normal)
is_bare = record { sapi = refl; command = refl; content = refl }

opens : IsNormalOpening (sabm true) (new Normal)
opens = record { state = refl; normal = refl; notices = refl; answer = refl }

-- the mobile's own command is not one for it, and with contention resolution it opens nothing
no_command : IsBareSabm (sabm false) (new Normal) → ⊥
no_command h = cc h.command

opens_nothing : IsNormalOpening (sabm true) (new Contention) → ⊥
opens_nothing h = cc h.normal

-- ---- a network's link of SAPI 0, opened with one octet, that has accepted a segment

abbrev link : State → LinkState
link state = record (link_with (record (initial_endpoint Network Zero Sdcch) {
  state = state;
  sabm_info = 1 ∷ [];
  accepted_segments = (5 ∷ [], false) ∷ [];
}) 2) { heard = true }

abbrev away : DataLinkState
away = record (initial_data_link Network Sdcch Contention 2 4) { link0 = link Open }

counts : CountsFromZero (link Open) → ⊥
counts h = cc h.accepted

returns : IsNormalOpening (sabm false) away × CountsFromZero (after_arrival (sabm false) away).link0
returns = (
  record { state = refl; normal = refl; notices = refl; answer = refl },
  record { accepted = refl; sent = refl; acked = refl; messages = refl; heard = refl },
)

established : IsEstablishedAfresh (link Open)
established = record {
  state = refl;
  normal = refl;
  fresh = record { accepted = refl; sent = refl; acked = refl; messages = refl; heard = refl };
  answer = refl;
  sabm = refl;
}

-- not while it is being opened
not_established : IsEstablishedAfresh (link Opening) → ⊥
not_established h = cc h.normal
