-- A data link: both links of one side of a channel, of which SAPI 0 goes first.
use Rattle.std.specs.Prelude.{◌≡◌, ◌≢◌, ◌≤◌, ℕ, Bool, true, false, not, ◌&&◌, ◌||◌, if◌then◌else◌, nat_eq}
use Rattle.std.specs.Prelude.{List, [], Option, Some, None}
use Rattle.lapdm_frame.specs.declared.Channel.{Channel}
use Rattle.lapdm_frame.specs.declared.Channel.TheVariants.{Sdcch, Sacch}
use Rattle.lapdm_frame.specs.Content.{Content, Ui, Frame}
use Rattle.lapdm_end.specs.lapdm_window.declared.Sapi.{Sapi}
use Rattle.lapdm_end.specs.lapdm_window.declared.Sapi.TheVariants.{Zero, Three}
use Rattle.lapdm_end.specs.lapdm_window.declared.State.{State}
use Rattle.lapdm_end.specs.lapdm_window.declared.State.TheVariants.{Open, Closing}
use Rattle.lapdm_end.specs.lapdm_window.declared.Notice.{Notice}
use Rattle.lapdm_end.specs.lapdm_window.Ends.{Role, Mobile, Network, initial_endpoint}
use Rattle.lapdm_end.specs.lapdm_window.segmenting.Segments.{Message}
use Rattle.lapdm_datalink.specs.declared.data_links.Establishment.{Establishment}
use Rattle.lapdm_datalink.specs.declared.data_links.Establishment.TheVariants.{Contention, Normal}
use Rattle.lapdm_datalink.specs.Links.{LinkState, link_with, after_received, received_notices, after_slot, SlotOutcome, slot_outcome}
use Rattle.lapdm_datalink.specs.Links.{ui_frame}

-- the state of a data link
pub record DataLinkState : Type 0 where
  pub link0 : LinkState
  pub link3 : LinkState
  -- since the last slot, a frame of SAPI 0 other than UI was received; it took the slot of an answer on SAPI 3
  pub heard_sapi0 : Bool
  -- on SACCH, whether the link of SAPI 0 on the main channel is established, as layer 3 said last
  pub is_main_established : Bool

-- The two links have the same role and the same channel; neither T200 is 0, and neither clock is longer than T200. The endpoint of the link
-- of SAPI 0 has SAPI 0 or, with normal establishment, SAPI 3.
pub record IsDataLink (s : DataLinkState) : Type 0 where
  pub sapi3 : s.link3.endpoint.sapi ≡ Three
  pub role : s.link3.endpoint.role ≡ s.link0.endpoint.role
  pub channel : s.link3.endpoint.channel ≡ s.link0.endpoint.channel
  pub t200 : s.link0.t200 ≢ 0
  pub t200_sapi3 : s.link3.t200 ≢ 0
  pub clock : s.link0.clock ≤ s.link0.t200
  pub clock_sapi3 : s.link3.clock ≤ s.link3.t200

-- the SAPI of the endpoint of the link of SAPI 0, by its kind of establishment
abbrev pub endpoint_sapi : Establishment → Sapi
endpoint_sapi Contention = Zero
endpoint_sapi Normal = Three

-- the initial state of a data link
abbrev pub initial_data_link : (role : Role) (channel : Channel) (establishment : Establishment) (t200 t200_sapi3 : ℕ) → DataLinkState
initial_data_link role channel establishment t t3 = record {
  link0 = link_with (initial_endpoint role (endpoint_sapi establishment) channel) t;
  link3 = link_with (initial_endpoint role Three channel) t3;
  heard_sapi0 = false;
  is_main_established = false;
}

-- the link of this SAPI
abbrev pub link_with_sapi : Sapi → DataLinkState → LinkState
link_with_sapi Zero s = s.link0
link_with_sapi Three s = s.link3

-- the data link after this link replaces the one of this SAPI
abbrev pub with_link : Sapi → LinkState → DataLinkState → DataLinkState
with_link Zero l s = record s { link0 = l }
with_link Three l s = record s { link3 = l }

-- whether a link in this state is established
abbrev pub is_established : State → Bool
is_established Open = true
is_established Closing = true
is_established other = false

-- whether the data link takes frames of SAPI 3: the network always; the mobile while SAPI 0 is established, on SACCH that of the main
-- channel
abbrev pub takes_sapi3_as : (role : Role) (channel : Channel) (state : DataLinkState) → Bool
takes_sapi3_as Network channel s = true
takes_sapi3_as Mobile Sdcch s = is_established s.link0.endpoint.state
takes_sapi3_as Mobile Sacch s = s.is_main_established

abbrev pub takes_sapi3 : DataLinkState → Bool
takes_sapi3 s = takes_sapi3_as s.link0.endpoint.role s.link0.endpoint.channel s

-- whether this is the content of a UI frame, such as the fill frame
abbrev pub is_ui : Content → Bool
is_ui (Ui p info) = true
is_ui other = false

-- whether a received frame took the slot of an answer on SAPI 3
abbrev pub holds_up_sapi3 : Frame → Bool
holds_up_sapi3 f = nat_eq f.sapi 0 && not (is_ui f.content)

-- the data link once it has heard this frame
abbrev pub having_heard : Frame → DataLinkState → DataLinkState
having_heard f s = record s { heard_sapi0 = s.heard_sapi0 || holds_up_sapi3 f }

-- the link that takes a received frame, or `None` if the data link drops it
abbrev pub sapi_for_frame : Frame → DataLinkState → Option Sapi
sapi_for_frame f s =
    if nat_eq f.sapi 0 then Some Zero else (if nat_eq f.sapi 3 && takes_sapi3 s then Some Three else None)

-- the data link after the link of this SAPI, if any, takes a received frame
abbrev pub taken_by : (sapi : Option Sapi) (frame : Frame) (state : DataLinkState) → DataLinkState
taken_by None f s = having_heard f s
taken_by (Some sapi) f s = with_link sapi (after_received f (link_with_sapi sapi s)) (having_heard f s)

-- the data link after it receives a frame
abbrev pub after_arrival : Frame → DataLinkState → DataLinkState
after_arrival f s = taken_by (sapi_for_frame f s) f s

-- the notices that the link of this SAPI, if any, reports when it takes a received frame
abbrev pub notices_of_taking : (sapi : Option Sapi) (frame : Frame) (state : DataLinkState) → List Notice
notices_of_taking None f s = []
notices_of_taking (Some sapi) f s = received_notices f (link_with_sapi sapi s)

-- the notices that the data link reports when it receives a frame
abbrev pub arrival_notices : Frame → DataLinkState → List Notice
arrival_notices f s = notices_of_taking (sapi_for_frame f s) f s

-- the data link at the start of its slot: the clock of SAPI 3 stops while the other side sends frames of SAPI 0
abbrev pub with_clocks_moved : DataLinkState → DataLinkState
with_clocks_moved s = record s {
  link0 = after_slot s.link0;
  link3 = if s.heard_sapi0 then s.link3 else after_slot s.link3;
  heard_sapi0 = false;
}

-- a frame of an endpoint with this SAPI as the link of SAPI 0 sends it: with SAPI 0
abbrev pub on_sapi0 : (endpoint_sapi : Sapi) (frame : Frame) → Frame
on_sapi0 Zero f = f
on_sapi0 Three f = record f { sapi = 0 }

-- the UI frame that the link of this SAPI sends with this message
abbrev pub unit_frame : Sapi → Message → DataLinkState → Frame
unit_frame Zero m s = on_sapi0 s.link0.endpoint.sapi (ui_frame m s.link0.endpoint)
unit_frame Three m s = ui_frame m s.link3.endpoint

-- what a data link does in a slot: its state afterwards, the frame sent, or `None` for the fill frame, and the notices of each link
pub record DataLinkOutcome : Type 0 where
  pub new_state : DataLinkState
  pub frame : Option Frame
  pub notices0 : List Notice
  pub notices3 : List Notice

-- SAPI 3 has the slot if SAPI 0 sends nothing in it
abbrev pub with_sapi3 : (sapi0 : SlotOutcome) (sent : Option Frame) (state : DataLinkState) → DataLinkOutcome
with_sapi3 o (Some f) s = record {
  new_state = record s { link0 = o.link };
  frame = Some (on_sapi0 s.link0.endpoint.sapi f);
  notices0 = o.notices;
  notices3 = [];
}
with_sapi3 o None s =
    let p = slot_outcome s.link3 in
    record { new_state = record s { link0 = o.link; link3 = p.link }; frame = p.frame; notices0 = o.notices; notices3 = p.notices }

-- what a data link does in a slot
abbrev pub data_link_outcome : DataLinkState → DataLinkOutcome
data_link_outcome s =
    let moved = with_clocks_moved s in
    let o = slot_outcome moved.link0 in
    with_sapi3 o o.frame moved

-- the data link once layer 3 has said whether the link of SAPI 0 on the main channel is established
abbrev pub having_main : Bool → DataLinkState → DataLinkState
having_main established s = record s { is_main_established = established }
