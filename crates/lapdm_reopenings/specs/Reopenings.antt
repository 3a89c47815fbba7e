-- Two data links on one channel whose links layer 3 of either side opens, releases and opens again: the runs of `lapdm_delivery` with local
-- releases, and without the premise that each link is opened once. The link of one SAPI is seen as a pair of `lapdm_openings`.
use Rattle.std.specs.Prelude.{◌≡◌, true, not, ◌&&◌, if◌then◌else◌, nat_eq, List, [], ◌∷◌, Option, Some, None}
use Rattle.std.specs.Prelude.{IfSome}
use Rattle.std.specs.List.{filter_map}
use Rattle.lapdm_frame.specs.Content.{Frame}
use Rattle.lapdm_end.specs.lapdm_window.declared.Sapi.{Sapi}
use Rattle.lapdm_end.specs.lapdm_window.Ends.{Role, Mobile, Network, sapi_number}
use Rattle.lapdm_end.specs.lapdm_window.Calls.{IsCallAllowedFor, refusal_of}
use Rattle.lapdm_link.specs.Queues.{queue_of, IsOldestSentOrNone}
use Rattle.lapdm_link.specs.Events.{other}
use Rattle.lapdm_link.specs.Claims.{LogLine, is_same_role, is_same_sapi}
use Rattle.lapdm_link.specs.Claims as Log
use Rattle.lapdm_datalink.specs.Links.{IsLinkCall, afresh, for_call, is_reopened_by_call, is_reopened_by_frame}
use Rattle.lapdm_datalink.specs.DataLinks.{with_link, sapi_for_frame, is_ui}
use Rattle.lapdm_delivery.specs.Runs.{RunState, RunEvent, Calls, Arrives, data_link_of, with_data_link, link_at, event_lines}
use Rattle.lapdm_delivery.specs.Runs as Run
use Rattle.lapdm_openings.specs.Pairs.{Pair, IsQuiet, IsFirst}
use Rattle.lapdm_openings.specs.Openings.{Opening, new_opening, Line, Asked, Released, Told, after_lines, Follows, WereGot}

-- an event of a run
pub data Event : Type 0 where
  Does : RunEvent → Event
  -- layer 3 of this side releases the link of this SAPI locally: the link starts afresh, and nothing is sent
  Releases : Role → Sapi → Event

-- the run after an event
abbrev pub after_event : Event → RunState → RunState
after_event (Does event) r = Run.after_event event r
after_event (Releases role sapi) r = with_data_link role (with_link sapi (afresh (link_at role sapi r)) (data_link_of role r)) r

-- ---- the links of one SAPI

-- the frame as an endpoint with SAPI 3 sends it, if the link of this SAPI sent it and it is no UI frame
abbrev pub frame_of : Sapi → Frame → Option Frame
frame_of sapi f = if nat_eq f.sapi (sapi_number sapi) && not (is_ui f.content) then Some (record f { sapi = 3 }) else None

abbrev pub frames_of : Sapi → List Frame → List Frame
frames_of sapi fs = filter_map (frame_of sapi) fs

-- the links of this SAPI, and their frames in transit
abbrev pub pair_at : Sapi → RunState → Pair
pair_at sapi r = record {
  mobile = link_at Mobile sapi r;
  network = link_at Network sapi r;
  air = record { up = frames_of sapi r.air.up; down = frames_of sapi r.air.down };
}

-- ---- runs

-- The event is possible in this state. As in a run of `lapdm_openings`, layer 3 opens or releases the link of SAPI `sapi` again only when
-- the last exchange of its side is over, and no remnant of an earlier opening opens it. The other link may be opened again at any time.
abbrev pub IsPossible : (sapi : Sapi) → Event → RunState → Type 0
IsPossible sapi (Does (Calls role s call)) r =
    let l = link_at role s r in
    IsLinkCall call × IsCallAllowedFor role l.endpoint.sapi call × (refusal_of call (for_call call l).endpoint ≡ None)
    × (s ≡ sapi → is_reopened_by_call call l ≡ true → IsQuiet role (pair_at sapi r))
IsPossible sapi (Does (Arrives sender arrived)) r = IsOldestSentOrNone arrived (queue_of sender r.air)
    × IfSome arrived (λ f. sapi_for_frame f (data_link_of (other sender) r) ≡ Some sapi
    → is_reopened_by_frame f (link_at (other sender) sapi r) ≡ true → IsFirst (other sender) (pair_at sapi r))
IsPossible sapi (Does event) r = Run.IsPossible event r
IsPossible sapi (Releases role s) r = s ≡ sapi → IsQuiet role (pair_at sapi r)

-- each event is possible when it happens
abbrev pub IsRun : (sapi : Sapi) (events : List Event) (state : RunState) → Type 0
IsRun sapi [] r = Unit {0}
IsRun sapi (event ∷ events) r = IsPossible sapi event r × IsRun sapi events (after_event event r)

-- ---- what layer 3 sees of the link of one SAPI

-- the line of the log, if it is one of this side and SAPI
abbrev pub line_of : Role → Sapi → LogLine → Option Line
line_of role sapi (Log.Asked q s call) = if is_same_role role q && is_same_sapi sapi s then Some (Asked call) else None
line_of role sapi (Log.Notified q s notice) = if is_same_role role q && is_same_sapi sapi s then Some (Told notice) else None
line_of role sapi other = None

-- what this side sees of an event
abbrev pub seen_by : Role → Sapi → Event → RunState → List Line
seen_by role sapi (Does event) r = filter_map (line_of role sapi) (event_lines event r)
seen_by role sapi (Releases q s) r = if is_same_role role q && is_same_sapi sapi s then Released ∷ [] else []

-- the openings of this side in a run, the newest first; the oldest is the time before the first
abbrev pub later_openings : Role → Sapi → List Event → RunState → List Opening → List Opening
later_openings role sapi [] r os = os
later_openings role sapi (event ∷ events) r os =
    later_openings role sapi events (after_event event r) (after_lines (seen_by role sapi event r) os)

abbrev pub run_openings : Role → Sapi → List Event → RunState → List Opening
run_openings role sapi events r = later_openings role sapi events r (new_opening ∷ [])

-- in each opening of the link of this SAPI both sides deliver in order, and what is reported as acknowledged was delivered
pub record DeliversInEachOpening (sapi : Sapi) (events : List Event) (state : RunState) : Type 0 where
  pub in_order : (role : Role) → Follows (run_openings role sapi events state) (run_openings (other role) sapi events state)
  pub acked : (role : Role) → WereGot (run_openings role sapi events state) (run_openings (other role) sapi events state)
