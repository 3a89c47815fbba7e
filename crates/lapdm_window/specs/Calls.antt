-- The calls of layer 3 to an endpoint, and the reasons for refusing them.
use Rattle.std.specs.Prelude.{◌≡◌, ◌+◌, Bool, true, false, not, if◌then◌else◌, nat_eq, nat_lt, nat_le, List, []}
use Rattle.std.specs.Prelude.{◌∷◌, ◌++◌, length, Option, Some, None}
use Rattle.segmenting.specs.lapdm_frame.Layout.{n201}
use Rattle.segmenting.specs.lapdm_frame.Content.{Sabm, Ui, Disc, Frame, fill_frame}
use Rattle.segmenting.specs.Segments.{Message, max_message_octets}
use Rattle.lapdm_window.specs.declared.Call.{Call as Asked}
use Rattle.lapdm_window.specs.declared.Call.TheVariants as A
use Rattle.lapdm_window.specs.declared.Sapi.{Sapi}
use Rattle.lapdm_window.specs.declared.Sapi.TheVariants.{Zero, Three}
use Rattle.lapdm_window.specs.declared.State.{State}
use Rattle.lapdm_window.specs.declared.State.TheVariants.{Idle, Opening, Closing}
use Rattle.lapdm_window.specs.declared.Reason.TheVariants as R
use Rattle.lapdm_window.specs.declared.Refused.{Refused}
use Rattle.lapdm_window.specs.declared.Refused.TheVariants as No
use Rattle.lapdm_window.specs.Ends.{Role, Mobile, EndpointState, Outcome, sends_frame, command_frame, command_cr, unacked_message_count}
use Rattle.lapdm_window.specs.Ends.{awaits_answer, n200}
use Rattle.lapdm_window.specs.Rules.{is_open, sends_next_segment, outstanding_frame}
use Rattle.lapdm_window.specs.Tables.{closes_and_reports}

-- a call to an endpoint: layer 3 establishes the link with or without information, sends a message in I frames or in a UI frame, or
-- releases the link; T200 expires; or the endpoint sends the frame that awaits an answer again without counting it, or the fill frame
pub data Call : Type 0 where
  Opens : (info : Message) → Call
  OpensWithoutInfo : Call
  Sends : (m : Message) → Call
  SendsUi : (m : Message) → Call
  Closes : Call
  T200Expires : Call
  Repeats : Call
  SendsFillFrame : Call

-- the `Call` of the specification that corresponds to a Rust `Call`
abbrev pub endpoint_call_of : Asked → Call
endpoint_call_of (A.Open info) = Opens info.now
endpoint_call_of A.OpenBare = OpensWithoutInfo
endpoint_call_of (A.Send m) = Sends m.now
endpoint_call_of (A.Unit m) = SendsUi m.now
endpoint_call_of A.Close = Closes
endpoint_call_of A.Timer = T200Expires
endpoint_call_of A.Idle = SendsFillFrame

-- the call exists for this side and SAPI: `Opens` only for the mobile and SAPI 0, `OpensWithoutInfo` only for SAPI 3, every other call for
-- all
abbrev pub IsCallAllowedFor : (role : Role) (sapi : Sapi) (call : Call) → Type 0
IsCallAllowedFor role sapi (Opens info) = (sapi ≡ Zero) × (role ≡ Mobile)
IsCallAllowedFor role sapi OpensWithoutInfo = sapi ≡ Three
IsCallAllowedFor role sapi other = Unit {0}

-- this call exists for the side and the SAPI of this endpoint
abbrev pub IsCallAllowedForEndpoint : (endpoint : EndpointState) (call : Call) → Type 0
IsCallAllowedForEndpoint e call = IsCallAllowedFor e.role e.sapi call

-- the call sends a UI frame and leaves the endpoint state unchanged
abbrev pub IsUiFrameCall : Call → Type 0
IsUiFrameCall (SendsUi m) = Unit {0}
IsUiFrameCall SendsFillFrame = Unit {0}
IsUiFrameCall other = ⊥

-- whether the state is Idle
abbrev pub is_idle : State → Bool
is_idle Idle = true
is_idle other = false

-- the reason in the first pair of condition and reason whose condition holds, or `None` if no condition holds
abbrev pub first_refusal : (checks : List (Bool × Refused)) → Option Refused
first_refusal [] = None
first_refusal ((true, refusal) ∷ others) = Some refusal
first_refusal ((false, refusal) ∷ others) = first_refusal others

-- the conditions for refusing a message to be sent in I frames, in the order tested: it is empty, it has more than 251 octets, or eight
-- messages are not yet fully acknowledged
abbrev pub message_refusal_checks : Message → EndpointState → List (Bool × Refused)
message_refusal_checks m e =
    (nat_eq (length m) 0, No.Empty) ∷ (nat_lt max_message_octets (length m), No.TooLong) ∷ (
      nat_le 8
          (unacked_message_count e),
      No.Full,
    ) ∷ []

-- the conditions for refusing information or a message to be sent in one frame, in the order tested: it is empty, or it has more than N201
-- octets
abbrev pub single_frame_refusal_checks : Message → EndpointState → List (Bool × Refused)
single_frame_refusal_checks m e =
    (nat_eq (length m) 0, No.Empty) ∷ (nat_lt (n201 e.channel) (length m), No.TooLong) ∷ []

-- the conditions for refusing a call, each with the reason returned, in the order tested
abbrev pub call_refusal_checks : Call → EndpointState → List (Bool × Refused)
call_refusal_checks (Opens info) e = (not (is_idle e.state), No.NotIdle) ∷ single_frame_refusal_checks info e
call_refusal_checks OpensWithoutInfo e = (not (is_idle e.state), No.NotIdle) ∷ []
call_refusal_checks (Sends m) e = (not (is_open e.state), No.NotOpen) ∷ message_refusal_checks m e
call_refusal_checks (SendsUi m) e = single_frame_refusal_checks m e
call_refusal_checks Closes e = (not (is_open e.state), No.NotOpen) ∷ []
call_refusal_checks T200Expires e = (not (awaits_answer e), No.NotRunning) ∷ []
call_refusal_checks Repeats e = (not (awaits_answer e), No.NotRunning) ∷ []
call_refusal_checks SendsFillFrame e = []

-- the reason why the call is refused, or `None` if it is accepted
abbrev pub refusal_of : Call → EndpointState → Option Refused
refusal_of call e = first_refusal (call_refusal_checks call e)

-- the SABM that an endpoint sends, with P = 1 and the information kept in its state
abbrev pub sabm : EndpointState → Frame
sabm e = command_frame e (Sabm true e.sabm_info)

-- the DISC that an endpoint sends, with P = 1
abbrev pub disc : EndpointState → Frame
disc e = command_frame e (Disc true)

-- the endpoint sends a SABM with this information and enters state Opening
abbrev pub sends_sabm : Message → EndpointState → Outcome
sends_sabm info e = let later = record e { state = Opening; sabm_info = info; retries = 0 } in sends_frame (sabm later) later

-- the endpoint state after layer 3 passes a message to the endpoint to send in I frames
abbrev pub with_queued_message : Message → EndpointState → EndpointState
with_queued_message m e = record e { messages = e.messages ++ m ∷ [] }

-- the frame that awaits an answer: the SABM in Opening, the DISC in Closing, otherwise the outstanding I frame with this P bit
abbrev pub awaited_frame : (poll_bit : Bool) (state : State) (endpoint : EndpointState) → Frame
awaited_frame p Opening e = sabm e
awaited_frame p Closing e = disc e
awaited_frame p other e = outstanding_frame p e

-- the outcome of T200 expiry: the frame that awaits a response or an acknowledgement is repeated or, after N200 repetitions, the link is
-- closed as failed (section 5.5.7 for state Open)
abbrev pub t200_expiry : EndpointState → Outcome
t200_expiry e =
    if nat_lt e.retries (n200 e.channel e.state)
    then sends_frame (awaited_frame true e.state e) (record e { retries = e.retries + 1 })
    else closes_and_reports R.Failed e

-- the outcome of an accepted call: the new state, the frames sent and the notices reported
abbrev pub call_outcome : Call → EndpointState → Outcome
call_outcome (Opens info) e = sends_sabm info e
call_outcome OpensWithoutInfo e = sends_sabm [] e
call_outcome (Sends m) e = sends_next_segment (with_queued_message m e)
call_outcome (SendsUi m) e = sends_frame (command_frame e (Ui false m)) e
call_outcome Closes e = sends_frame (disc e) (record e { state = Closing; retries = 0 })
call_outcome T200Expires e = t200_expiry e
call_outcome Repeats e = sends_frame (awaited_frame false e.state e) e
call_outcome SendsFillFrame e = sends_frame (fill_frame (command_cr e.role)) e
