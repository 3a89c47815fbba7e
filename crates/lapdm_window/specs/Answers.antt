-- What each operation of a window returns, as a function of the endpoint state that the window represents.
use Rattle.std.specs.Prelude.{ℕ, ◌+◌, Bool, if◌then◌else◌, nat_eq, nat_lt, Option, Some, None}
use Rattle.segmenting.specs.Segments.{Message, Segment}
use Rattle.segmenting.specs.Joining.{reassembly_result}
use Rattle.lapdm_window.specs.declared.State.TheVariants.{Open}
use Rattle.lapdm_window.specs.declared.Refused.{Refused}
use Rattle.lapdm_window.specs.declared.Acked as A
use Rattle.lapdm_window.specs.declared.Acked.TheVariants as V
use Rattle.lapdm_window.specs.declared.Info.{Info}
use Rattle.lapdm_window.specs.declared.Info.TheVariants.{Accepted, OutOfSequence}
use Rattle.lapdm_window.specs.declared.Timer.{Timer}
use Rattle.lapdm_window.specs.declared.Timer.TheVariants as T
use Rattle.lapdm_window.specs.Ends.{EndpointState, awaits_ack, first_unacked_segment, vr, n200}
use Rattle.lapdm_window.specs.Rules.{nr_acknowledges_segment, acked_message_number, reject_is_due, with_accepted_segment}
use Rattle.lapdm_window.specs.Rules.{with_reject_condition}
use Rattle.lapdm_window.specs.Calls.{first_refusal, message_refusal_checks}

-- the reason why the window refuses this message, or `None` if it accepts it
abbrev pub message_refusal : Message → EndpointState → Option Refused
message_refusal m e = first_refusal (message_refusal_checks m e)

-- the outstanding segment, if there is one
abbrev pub outstanding_segment : EndpointState → Option Segment
outstanding_segment e = if awaits_ack e then Some (first_unacked_segment e) else None

-- what a received N(R) acknowledges: nothing, the last segment of a message, or an earlier segment of a message
abbrev pub acknowledgement_by_nr : (nr : ℕ) (endpoint : EndpointState) → A.Acked
acknowledgement_by_nr nr e =
    if nr_acknowledges_segment nr e
    then (if (first_unacked_segment e).1 then V.Piece else V.Message (acked_message_number e))
    else V.Nothing

-- whether the segment of a received I frame with this N(S) and P bit is accepted and, if not, whether a REJ must be sent
abbrev pub received_segment_result : (ns : ℕ) (poll : Bool) (segment : Segment) (endpoint : EndpointState) → Info
received_segment_result ns p segment e =
    if nat_eq ns (vr e) then Accepted (reassembly_result e.accepted_segments segment) else OutOfSequence (reject_is_due p e)

-- the endpoint state after the segment of an I frame is accepted, or discarded as out of sequence
abbrev pub state_after_i_frame : Info → Segment → EndpointState → EndpointState
state_after_i_frame (Accepted joined) segment e = with_accepted_segment segment e
state_after_i_frame (OutOfSequence reject) segment e = with_reject_condition e

-- the result of T200 expiry: the outstanding segment is repeated (`Again`), has been repeated N200 times (`Spent`), or does not exist
-- (`NotRunning`)
abbrev pub t200_result : EndpointState → Timer
t200_result e =
    if awaits_ack e then (if nat_lt e.retries (n200 e.channel Open) then T.Again else T.Spent) else T.NotRunning

-- the endpoint state after T200 expiry with this result: a repetition increments the retry count, any other result changes nothing
abbrev pub state_after_t200 : Timer → EndpointState → EndpointState
state_after_t200 T.Again e = record e { retries = e.retries + 1 }
state_after_t200 other e = e
