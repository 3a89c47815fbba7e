-- Two whole data links, a mobile and a network, whose slots come together. In each slot each side takes what arrives, layer 3 makes its
-- calls, and the side sends one block, which arrives `delay` slots later, before the slot after that, or is lost.
use Rattle.std.specs.Prelude.{◌≡◌, ℕ, zero, suc, Bool, List, [], ◌∷◌, All, ◌++◌, true, false, map, if◌then◌else◌}
use Rattle.std.specs.Prelude.{get_or, Option, Some}
use Rattle.std.specs.Prelude.{None}
use Rattle.lapdm_frame.specs.declared.Channel.{Channel}
use Rattle.lapdm_frame.specs.Content.{Frame}
use Rattle.lapdm_end.specs.lapdm_window.segmenting.Segments.{Message}
use Rattle.lapdm_end.specs.lapdm_window.declared.Sapi.{Sapi}
use Rattle.lapdm_end.specs.lapdm_window.declared.Sapi.TheVariants.{Zero, Three}
use Rattle.lapdm_end.specs.lapdm_window.Ends.{Role, Mobile, Network}
use Rattle.lapdm_end.specs.lapdm_window.declared.Refused.{Refused}
use Rattle.lapdm_end.specs.lapdm_window.Calls.{Call, SendsUi, IsCallAllowedFor, refusal_of}
use Rattle.lapdm_link.specs.Events.{other}
use Rattle.lapdm_link.specs.Claims.{LogLine, Asked, Notified, is_same_sapi}
use Rattle.lapdm_datalink.specs.declared.data_links.Establishment.{Establishment}
use Rattle.lapdm_datalink.specs.Links.{LinkState, IsLinkCall, after_call, for_call, is_reopened_by_call}
use Rattle.lapdm_datalink.specs.DataLinks.{DataLinkState, initial_data_link, link_with_sapi, with_link, having_main, DataLinkOutcome}
use Rattle.lapdm_datalink.specs.DataLinks.{data_link_outcome, unit_frame}
use Rattle.lapdm_delivery.specs.Runs.{after_arrival_if_any, arrival_lines, OpensNoClosedLink, sapi_of_endpoint}

-- one side's part of a slot
pub record Part : Type 0 where
  -- whether the link of SAPI 0 on the main channel is established, as layer 3 says first
  pub is_main_established : Bool
  -- the calls of layer 3, in order, each to the link of its SAPI
  pub calls : List (Sapi × Call)
  -- the UI frame that goes out if the data link leaves the slot free
  pub unit : Option (Sapi × Message)
  -- whether the block is lost
  pub is_lost : Bool

-- the slots of a run, how SAPI 0 is established, T200 of both links of SAPI 0 and of each of SAPI 3, and how late the blocks arrive
pub record Run : Type 0 where
  pub delay : ℕ
  pub t200 : ℕ
  pub t200_sapi3 : Role → ℕ
  pub channel : Channel
  pub establishment : Establishment
  pub part : (slot : ℕ) (role : Role) → Part

-- one side: its data link, and what its blocks brought on the air so far, newest first; `None` for a block that was lost or is the fill
-- frame
pub record Side : Type 0 where
  pub data_link : DataLinkState
  pub sent : List (Option Frame)

-- the link after calls of layer 3; a refused call changes nothing
abbrev pub after_call_unless : (refused : Option Refused) (call : Call) (link : LinkState) → LinkState
after_call_unless None call l = after_call call l
after_call_unless (Some why) call l = l

-- what a block brings to the other side
abbrev pub carried : (is_lost : Bool) (frame : Option Frame) → Option Frame
carried lost f = if lost then None else f

-- why the link refuses the call, or `None`
abbrev pub refusal : Sapi × Call → DataLinkState → Option Refused
refusal (sapi, call) s = refusal_of call (for_call call (link_with_sapi sapi s)).endpoint

-- the data link after a call of layer 3; a refused call changes nothing
abbrev pub after_call_if : (refused : Option Refused) (call : Sapi × Call) (data_link : DataLinkState) → DataLinkState
after_call_if refused (sapi, call) s = with_link sapi (after_call_unless refused call (link_with_sapi sapi s)) s

abbrev pub after_call_of : Sapi × Call → DataLinkState → DataLinkState
after_call_of call s = after_call_if (refusal call s) call s

abbrev pub after_calls : List (Sapi × Call) → DataLinkState → DataLinkState
after_calls [] s = s
after_calls (call ∷ calls) s = after_calls calls (after_call_of call s)

-- the data link in its slot, before it sends
abbrev pub ready : (part : Part) (arrived : Option Frame) (data_link : DataLinkState) → DataLinkState
ready p arrived s = after_calls p.calls (after_arrival_if_any arrived (having_main p.is_main_established s))

-- the frame of the data link, if any, or else the UI frame, if any
abbrev pub frame_or_unit : (frame : Option Frame) (unit : Option (Sapi × Message)) (data_link : DataLinkState) → Option Frame
frame_or_unit (Some f) unit s = Some f
frame_or_unit None None s = None
frame_or_unit None (Some (sapi, m)) s = Some (unit_frame sapi m s)

-- a side after its slot
abbrev pub side_after : (part : Part) (arrived : Option Frame) (side : Side) → Side
side_after p arrived s =
    let o = data_link_outcome (ready p arrived s.data_link) in
    record { data_link = o.new_state; sent = carried p.is_lost (frame_or_unit o.frame p.unit o.new_state) ∷ s.sent }

-- this side before the slot with this number, counted from 0
abbrev pub side_at : (run : Run) (slot : ℕ) (role : Role) → Side
side_at r zero role =
    record { data_link = initial_data_link role r.channel r.establishment r.t200 (r.t200_sapi3 role); sent = [] }
side_at r (suc n) role = side_after (r.part n role) (get_or (side_at r n (other role)).sent r.delay None) (side_at r n role)

-- what arrives at this side in the slot, its data link before it sends, and what this does
abbrev pub arriving_at : (run : Run) (slot : ℕ) (role : Role) → Option Frame
arriving_at r n role = get_or (side_at r n (other role)).sent r.delay None

abbrev pub ready_at : (run : Run) (slot : ℕ) (role : Role) → DataLinkState
ready_at r n role = ready (r.part n role) (arriving_at r n role) (side_at r n role).data_link

abbrev pub outcome_at : (run : Run) (slot : ℕ) (role : Role) → DataLinkOutcome
outcome_at r n role = data_link_outcome (ready_at r n role)

-- layer 3 makes this call: it exists for the side and the kind of establishment, and opens, sends over or closes the link
abbrev pub IsCallOf : Establishment → Role → Sapi × Call → Type 0
IsCallOf e role (sapi, call) = IsCallAllowedFor role (sapi_of_endpoint e sapi) call × IsLinkCall call

abbrev pub HasCalls : Run → Type 0
HasCalls r = (n : ℕ) (role : Role) → All (IsCallOf r.establishment role) (r.part n role).calls

-- ---- the log

-- the lines of a call: a refused call has none
abbrev pub call_lines_unless : (refused : Option Refused) (role : Role) (call : Sapi × Call) → List LogLine
call_lines_unless None role (sapi, call) = Asked role sapi call ∷ []
call_lines_unless (Some why) role call = []

abbrev pub calls_lines : Role → List (Sapi × Call) → DataLinkState → List LogLine
calls_lines role [] s = []
calls_lines role (call ∷ calls) s = call_lines_unless (refusal call s) role call ++ calls_lines role calls (after_call_of call s)

-- the line of the UI frame, if it goes out
abbrev pub unit_lines : Role → (frame : Option Frame) (unit : Option (Sapi × Message)) → List LogLine
unit_lines role None (Some (sapi, m)) = Asked role sapi (SendsUi m) ∷ []
unit_lines role frame unit = []

abbrev pub outcome_lines : Role → DataLinkOutcome → List LogLine
outcome_lines role o = map (Notified role Zero) o.notices0 ++ map (Notified role Three) o.notices3

-- the data link in the slot before it takes what arrives, and after
abbrev pub before_at : (run : Run) (slot : ℕ) (role : Role) → DataLinkState
before_at r n role = having_main (r.part n role).is_main_established (side_at r n role).data_link

abbrev pub taken_at : (run : Run) (slot : ℕ) (role : Role) → DataLinkState
taken_at r n role = after_arrival_if_any (arriving_at r n role) (before_at r n role)

-- the lines of this side in the slot
abbrev pub lines_at : (run : Run) (slot : ℕ) (role : Role) → List LogLine
lines_at r n role =
    arrival_lines role (arriving_at r n role) (before_at r n role)
    ++ (calls_lines role (r.part n role).calls (taken_at r n role)
    ++ (outcome_lines role (outcome_at r n role) ++ unit_lines role (outcome_at r n role).frame (r.part n role).unit))

-- the log before the slot: what layer 3 asked for and what the links reported, in order
abbrev pub log_before : (run : Run) (slot : ℕ) → List LogLine
log_before r zero = []
log_before r (suc n) = log_before r n ++ (lines_at r n Mobile ++ lines_at r n Network)

-- none of these calls opens a link again that is closed or open
abbrev pub CallsOpenNoLinkAgain : List (Sapi × Call) → DataLinkState → Type 0
CallsOpenNoLinkAgain [] s = Unit {0}
CallsOpenNoLinkAgain ((sapi, call) ∷ calls) s =
    (is_reopened_by_call call (link_with_sapi sapi s) ≡ false) × CallsOpenNoLinkAgain calls (after_call_of (sapi, call) s)

-- none of these calls opens the link of this SAPI again
abbrev pub CallsOpenOnce : (sapi : Sapi) → List (Sapi × Call) → DataLinkState → Type 0
CallsOpenOnce sapi [] s = Unit {0}
CallsOpenOnce sapi ((to, call) ∷ calls) s =
    (is_same_sapi sapi to ≡ true → is_reopened_by_call call (link_with_sapi to s) ≡ false)
    × CallsOpenOnce sapi calls (after_call_of (to, call) s)

-- the UI frame of a free slot fits in a block
abbrev pub UnitIsAccepted : (unit : Option (Sapi × Message)) (state : DataLinkState) → Type 0
UnitIsAccepted None s = Unit {0}
UnitIsAccepted (Some (sapi, m)) s = refusal_of (SendsUi m) (link_with_sapi sapi s).endpoint ≡ None

-- in this slot, this side opens no link again, by a frame or by a call, and its UI frame is accepted
pub record IsRegular (r : Run) (n : ℕ) (role : Role) : Type 0 where
  pub arrival : OpensNoClosedLink (arriving_at r n role) (before_at r n role)
  pub calls : CallsOpenNoLinkAgain (r.part n role).calls (taken_at r n role)
  pub unit : UnitIsAccepted (r.part n role).unit (outcome_at r n role).new_state
