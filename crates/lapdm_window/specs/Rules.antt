-- The rules of the window: how segments are sent, acknowledged and accepted. Every RR and REJ sent by these rules is a response, and every
-- I frame has P = 0.
use Rattle.std.specs.Prelude.{ℕ, ◌+◌, Bool, true, false, not, ◌&&◌, ◌||◌, if◌then◌else◌, nat_eq, nat_lt, List, []}
use Rattle.std.specs.Prelude.{◌∷◌, ◌++◌, length}
use Rattle.segmenting.specs.lapdm_frame.Content.{I, Rr, Rej, Frame}
use Rattle.segmenting.specs.declared.joiner.Joined.{Joined}
use Rattle.segmenting.specs.declared.joiner.Joined.TheVariants as J
use Rattle.segmenting.specs.Segments.{Message, Segment}
use Rattle.segmenting.specs.Joining.{partial_message, reassembly_result}
use Rattle.lapdm_window.specs.declared.State.{State}
use Rattle.lapdm_window.specs.declared.State.TheVariants.{Open}
use Rattle.lapdm_window.specs.declared.Notice.{Notice}
use Rattle.lapdm_window.specs.declared.Notice.TheVariants.{Got, Acked, Oversize}
use Rattle.lapdm_window.specs.Ends.{EndpointState, Outcome, no_effect, sends_frame, reports_notice, ◌then◌}
use Rattle.lapdm_window.specs.Ends.{command_frame, response_frame, awaits_ack, segments_of_all_messages}
use Rattle.lapdm_window.specs.Ends.{first_unacked_segment, acked_message_count, vs, va, vr, capped_at_64_bits}

-- the I frame that carries the outstanding segment, with this P bit (section 5.5.1)
abbrev pub outstanding_frame : (poll_bit : Bool) (endpoint : EndpointState) → Frame
outstanding_frame p e = let segment = first_unacked_segment e in command_frame e (I (va e) (vr e) p segment.1 segment.0)

-- whether an unsent segment remains and no segment is outstanding
abbrev pub has_segment_to_send : EndpointState → Bool
has_segment_to_send e = not (awaits_ack e) && nat_lt e.sent_segments (length (segments_of_all_messages e))

-- the endpoint state after its next segment is sent, with the retry count reset to 0
abbrev pub with_segment_sent : EndpointState → EndpointState
with_segment_sent e = record e { sent_segments = e.sent_segments + 1; retries = 0 }

-- the endpoint sends its next segment in an I frame with P = 0
abbrev pub sends_segment : EndpointState → Outcome
sends_segment e = sends_frame (outstanding_frame false (with_segment_sent e)) (with_segment_sent e)

-- whether the state is Open
abbrev pub is_open : State → Bool
is_open Open = true
is_open other = false

-- whether the endpoint may send its next I frame: the link is open, an unsent segment remains, and no segment is outstanding
abbrev pub may_send_next_segment : EndpointState → Bool
may_send_next_segment e = is_open e.state && has_segment_to_send e

-- the endpoint sends its next I frame if it may, and otherwise does nothing
abbrev pub sends_next_segment : EndpointState → Outcome
sends_next_segment e = if may_send_next_segment e then sends_segment e else no_effect e

-- whether this N(R) acknowledges the outstanding segment: it must equal V(S) (this project's own rule)
abbrev pub nr_acknowledges_segment : (nr : ℕ) (endpoint : EndpointState) → Bool
nr_acknowledges_segment nr e = awaits_ack e && nat_eq nr (vs e)

-- the endpoint state after the outstanding segment is acknowledged
abbrev pub with_segment_acked : EndpointState → EndpointState
with_segment_acked e = record e { acked_segments = e.sent_segments; retries = 0 }

-- the number, from 1 to 2^64 - 1, of the message that is fully acknowledged with the outstanding segment
abbrev pub acked_message_number : EndpointState → ℕ
acked_message_number e = capped_at_64_bits (acked_message_count (with_segment_acked e))

-- marks the outstanding segment as acknowledged and, if it is the last of its message (M = 0), reports the message as acknowledged
abbrev pub marks_segment_acked : (more : Bool) (endpoint : EndpointState) → Outcome
marks_segment_acked true e = no_effect (with_segment_acked e)
marks_segment_acked false e = reports_notice (Acked (acked_message_number e)) (with_segment_acked e)

-- evaluates a received N(R), which may acknowledge the outstanding segment (section 5.5.3)
abbrev pub evaluates_nr : (nr : ℕ) (endpoint : EndpointState) → Outcome
evaluates_nr nr e = if nr_acknowledges_segment nr e then marks_segment_acked (first_unacked_segment e).1 e else no_effect e

-- the notices for an accepted segment: `Got` with the message that it completes, or `Oversize` at the end of an oversize message
abbrev pub segment_notices : (joined : Joined) (more : Bool) (message : Message) → List Notice
segment_notices J.Whole more m = Got m ∷ []
segment_notices J.Oversize false m = Oversize ∷ []
segment_notices J.Oversize true m = []
segment_notices J.More more m = []

-- the state of the endpoint after it accepts a segment
abbrev pub with_accepted_segment : Segment → EndpointState → EndpointState
with_accepted_segment segment e =
    record e { accepted_segments = e.accepted_segments ++ segment ∷ []; rejecting = false }

-- the endpoint accepts a segment, and reports the message that it completes or the oversize message that it ends
abbrev pub accepts_segment : Segment → EndpointState → Outcome
accepts_segment segment e = record {
  new_state = with_accepted_segment segment e;
  frames = [];
  notices = segment_notices (reassembly_result e.accepted_segments segment) segment.1
      (partial_message e.accepted_segments ++ segment.0);
}

-- the endpoint sends an RR response with this F bit
abbrev pub sends_rr : (final_bit : Bool) (endpoint : EndpointState) → Outcome
sends_rr f e = sends_frame (response_frame e (Rr (vr e) f)) e

-- acknowledges an accepted segment: if P = 1, with an RR, followed by the next I frame if one may be sent; if P = 0, with the next I frame
-- or, if none may be sent, with an RR (this project's own rule)
abbrev pub answers_segment : (poll : Bool) (endpoint : EndpointState) → Outcome
answers_segment true e = sends_rr true e then sends_next_segment
answers_segment false e = if may_send_next_segment e then sends_segment e else sends_rr false e

-- whether a REJ is due after an out-of-sequence segment: always if P = 1, otherwise only if the reject condition is not yet set (section
-- 5.6.1)
abbrev pub reject_is_due : (poll : Bool) (endpoint : EndpointState) → Bool
reject_is_due p e = p || not e.rejecting

-- the endpoint state with the reject condition set, after an out-of-sequence segment is discarded (section 5.6.1)
abbrev pub with_reject_condition : EndpointState → EndpointState
with_reject_condition e = record e { rejecting = true }

-- the endpoint discards an out-of-sequence segment; if a REJ is due, it sends the REJ and sets the reject condition
abbrev pub rejects_segment : (poll : Bool) (endpoint : EndpointState) → Outcome
rejects_segment p e =
    if reject_is_due p e then sends_frame (response_frame e (Rej (vr e) p)) (with_reject_condition e) else no_effect e

-- what the endpoint does when it receives an I frame in Open (section 5.5.2)
abbrev pub takes_i_frame : (ns nr : ℕ) (poll : Bool) (segment : Segment) (endpoint : EndpointState) → Outcome
takes_i_frame ns nr p segment e =
    if nat_eq ns (vr e)
    then (evaluates_nr nr e then accepts_segment segment then answers_segment p)
    else (evaluates_nr nr e then rejects_segment p then sends_next_segment)

-- the endpoint answers a poll with an RR response with F = 1, and does nothing if there is no poll
abbrev pub answers_poll : (poll : Bool) (endpoint : EndpointState) → Outcome
answers_poll poll e = if poll then sends_rr true e else no_effect e

-- what the endpoint does when it receives an RR in Open
abbrev pub takes_rr : (nr : ℕ) (poll : Bool) (endpoint : EndpointState) → Outcome
takes_rr nr poll e = evaluates_nr nr e then answers_poll poll then sends_next_segment

-- the endpoint repeats the outstanding I frame (section 5.5.4) or, if none is outstanding, sends its next I frame if it may
abbrev pub resends_outstanding_segment : EndpointState → Outcome
resends_outstanding_segment e = if awaits_ack e then sends_frame (outstanding_frame false e) e else sends_next_segment e

-- what the endpoint does when it receives a REJ in Open (section 5.5.4)
abbrev pub takes_rej : (nr : ℕ) (poll : Bool) (endpoint : EndpointState) → Outcome
takes_rej nr poll e = evaluates_nr nr e then answers_poll poll then resends_outstanding_segment
