-- Runs of two data links on one channel, a mobile and a network. Frames arrive in order, as late as they like, or are lost; a block that
-- cannot be read counts as lost. A slot may come at any time, so nothing depends on the value of T200.
use Rattle.std.specs.Prelude.{◌≡◌, ◌++◌, ℕ, Bool, false, List, [], ◌∷◌, map, Option, Some, None, IfSome}
use Rattle.std.specs.List.{cons_option}
use Rattle.lapdm_frame.specs.declared.Channel.{Channel}
use Rattle.lapdm_frame.specs.Content.{Frame}
use Rattle.lapdm_end.specs.lapdm_window.segmenting.Segments.{Message}
use Rattle.lapdm_end.specs.lapdm_window.declared.Sapi.{Sapi}
use Rattle.lapdm_end.specs.lapdm_window.declared.Sapi.TheVariants.{Zero, Three}
use Rattle.lapdm_end.specs.lapdm_window.Ends.{Role, Mobile, Network}
use Rattle.lapdm_end.specs.lapdm_window.Calls.{Call, SendsUi, IsCallAllowedFor, refusal_of}
use Rattle.lapdm_link.specs.Queues.{Queues, empty_queues, queue_of, with_items_appended, without_oldest_item, IsOldestSentOrNone}
use Rattle.lapdm_link.specs.Events.{other}
use Rattle.lapdm_link.specs.Claims.{LogLine, Asked, Notified}
use Rattle.lapdm_link.specs.Claims.{log_lines_of_sapi}
use Rattle.lapdm_datalink.specs.declared.data_links.Establishment.{Establishment}
use Rattle.lapdm_datalink.specs.Links.{LinkState, IsLinkCall, after_call, is_reopened_by_frame}
use Rattle.lapdm_datalink.specs.DataLinks.{DataLinkState, initial_data_link, link_with_sapi, with_link, sapi_for_frame, after_arrival}
use Rattle.lapdm_datalink.specs.DataLinks.{notices_of_taking, data_link_outcome, having_main, endpoint_sapi, unit_frame}

-- the data links of both sides, and the frames in transit between them
pub record RunState : Type 0 where
  pub mobile : DataLinkState
  pub network : DataLinkState
  pub air : Queues Frame

-- the data links at the start of a run, with T200 of each link in slots
abbrev pub initial_run : (channel : Channel) (establishment : Establishment) (t200 : Role → Sapi → ℕ) → RunState
initial_run channel establishment t200 = record {
  mobile = initial_data_link Mobile channel establishment (t200 Mobile Zero) (t200 Mobile Three);
  network = initial_data_link Network channel establishment (t200 Network Zero) (t200 Network Three);
  air = empty_queues;
}

-- the data link of this side
abbrev pub data_link_of : Role → RunState → DataLinkState
data_link_of Mobile r = r.mobile
data_link_of Network r = r.network

-- the run after this data link replaces that of this side
abbrev pub with_data_link : Role → DataLinkState → RunState → RunState
with_data_link Mobile s r = record r { mobile = s }
with_data_link Network s r = record r { network = s }

-- the link of this side and SAPI
abbrev pub link_at : Role → Sapi → RunState → LinkState
link_at role sapi r = link_with_sapi sapi (data_link_of role r)

-- an event of a run
pub data RunEvent : Type 0 where
  -- layer 3 calls the link of this side and SAPI
  Calls : Role → Sapi → Call → RunEvent
  -- the side has a slot
  Slot : Role → RunEvent
  -- the side has a slot that its data link leaves free, and a UI frame with this SAPI and message is sent in it
  UnitSlot : Role → Sapi → Message → RunEvent
  -- the oldest frame in transit from this side arrives at the other side, or is lost if `arrived` is `None`
  Arrives : (sender : Role) → (arrived : Option Frame) → RunEvent
  -- layer 3 says whether the link of SAPI 0 on the main channel is established
  HasMain : Role → Bool → RunEvent

-- the frame that arrives, if any, does not open a closed link again
abbrev pub OpensNoClosedLink : (arrived : Option Frame) (state : DataLinkState) → Type 0
OpensNoClosedLink None s = Unit {0}
OpensNoClosedLink (Some f) s = IfSome (sapi_for_frame f s) (λ sapi. is_reopened_by_frame f (link_with_sapi sapi s) ≡ false)

-- The event is possible in this state: a call is one of layer 3 that the endpoint does not refuse, and a UI frame is sent in a free slot.
-- Each link is opened once, by a call (an endpoint that is open or closed refuses it) or by a frame. The events before a second opening
-- are a run.
abbrev pub IsPossible : RunEvent → RunState → Type 0
IsPossible (Calls role sapi call) r =
    let e = (link_at role sapi r).endpoint in IsLinkCall call × IsCallAllowedFor role e.sapi call × (refusal_of call e ≡ None)
IsPossible (Slot role) r = Unit {0}
IsPossible (UnitSlot role sapi m) r =
    let o = data_link_outcome (data_link_of role r) in
    (o.frame ≡ None) × (refusal_of (SendsUi m) (link_with_sapi sapi o.new_state).endpoint ≡ None)
IsPossible (Arrives sender arrived) r = IsOldestSentOrNone arrived (queue_of sender r.air)
    × OpensNoClosedLink arrived (data_link_of (other sender) r)
IsPossible (HasMain role established) r = Unit {0}

-- the run after this side sends these frames
abbrev pub with_frames_sent : Role → List Frame → RunState → RunState
with_frames_sent role fs r = record r { air = with_items_appended role fs r.air }

-- the run after a slot of this side, in which its data link or its user sends these frames
abbrev pub after_slot_of : Role → List Frame → RunState → RunState
after_slot_of role fs r = with_frames_sent role fs (with_data_link role (data_link_outcome (data_link_of role r)).new_state r)

-- the data link after this frame, if any, arrives at it
abbrev pub after_arrival_if_any : Option Frame → DataLinkState → DataLinkState
after_arrival_if_any None s = s
after_arrival_if_any (Some f) s = after_arrival f s

-- the run after the oldest frame from the other side arrives at this side, or is lost
abbrev pub after_arrival_at : Role → Option Frame → RunState → RunState
after_arrival_at role arrived r =
    let s = after_arrival_if_any arrived (data_link_of role r) in
    record (with_data_link role s r) { air = without_oldest_item (other role) r.air }

-- the run after an event
abbrev pub after_event : RunEvent → RunState → RunState
after_event (Calls role sapi call) r =
    with_data_link role (with_link sapi (after_call call (link_at role sapi r)) (data_link_of role r)) r
after_event (Slot role) r = after_slot_of role (cons_option (data_link_outcome (data_link_of role r)).frame []) r
after_event (UnitSlot role sapi m) r =
    after_slot_of role (unit_frame sapi m (data_link_outcome (data_link_of role r)).new_state ∷ []) r
after_event (Arrives sender arrived) r = after_arrival_at (other sender) arrived r
after_event (HasMain role established) r = with_data_link role (having_main established (data_link_of role r)) r

-- the log lines of a slot: the links that are given up in it
abbrev pub slot_lines : Role → RunState → List LogLine
slot_lines role r = let o = data_link_outcome (data_link_of role r) in
    map (Notified role Zero) o.notices0 ++ map (Notified role Three) o.notices3

-- the log lines of the notices that the link of this SAPI, if any, reports when it takes a frame
abbrev pub taking_lines : (role : Role) (sapi : Option Sapi) (frame : Frame) (state : DataLinkState) → List LogLine
taking_lines role None f s = []
taking_lines role (Some sapi) f s = map (Notified role sapi) (notices_of_taking (Some sapi) f s)

-- the log lines of an arrival
abbrev pub arrival_lines : Role → Option Frame → DataLinkState → List LogLine
arrival_lines role None s = []
arrival_lines role (Some f) s = taking_lines role (sapi_for_frame f s) f s

-- the log lines of an event: the call of layer 3, or the notices that the links report
abbrev pub event_lines : RunEvent → RunState → List LogLine
event_lines (Calls role sapi call) r = Asked role sapi call ∷ []
event_lines (Slot role) r = slot_lines role r
event_lines (UnitSlot role sapi m) r = slot_lines role r ++ Asked role sapi (SendsUi m) ∷ []
event_lines (Arrives sender arrived) r = arrival_lines (other sender) arrived (data_link_of (other sender) r)
event_lines (HasMain role established) r = []

-- each event is possible when it happens
abbrev pub IsRun : (events : List RunEvent) (state : RunState) → Type 0
IsRun [] r = Unit {0}
IsRun (event ∷ events) r = IsPossible event r × IsRun events (after_event event r)

-- the log of a run: what layer 3 asked for and what the links reported, in order
abbrev pub run_log : (events : List RunEvent) (state : RunState) → List LogLine
run_log [] r = []
run_log (event ∷ events) r = event_lines event r ++ run_log events (after_event event r)

-- ---- the log of one link

-- the SAPI of the endpoint of the link of this SAPI: with normal establishment that of SAPI 0 has SAPI 3
abbrev pub sapi_of_endpoint : Establishment → Sapi → Sapi
sapi_of_endpoint establishment Zero = endpoint_sapi establishment
sapi_of_endpoint establishment Three = Three

-- the line, as one of a link of this SAPI
abbrev pub told_of : Sapi → LogLine → LogLine
told_of sapi (Asked role s call) = Asked role sapi call
told_of sapi (Notified role s notice) = Notified role sapi notice
told_of sapi other = other

-- what the log says of the link of this SAPI, as a log of its endpoints
abbrev pub log_of_link : Establishment → Sapi → List LogLine → List LogLine
log_of_link establishment sapi log = map (told_of (sapi_of_endpoint establishment sapi)) (log_lines_of_sapi sapi log)
