-- One endpoint of a data link (GSM 04.06, section 5). Its state records the whole history: all messages and segments, and counts that do
-- not wrap around modulo 8.
use Rattle.std.specs.Prelude.{◌≡◌, ℕ, ◌+◌, ◌-◌, ◌%◌, ◌^◌, ◌≤◌, min, Bool, true, false, not, nat_eq, List}
use Rattle.std.specs.Prelude.{[], ◌∷◌, ◌++◌, length, take, slice_index_or, All}
use Rattle.std.specs.List.{flat_map}
use Rattle.segmenting.specs.lapdm_frame.declared.Channel.{Channel}
use Rattle.segmenting.specs.lapdm_frame.declared.Channel.TheVariants.{Sdcch}
use Rattle.segmenting.specs.lapdm_frame.Layout.{n201}
use Rattle.segmenting.specs.lapdm_frame.Content.{Content, Frame}
use Rattle.segmenting.specs.Segments.{Message, Segment, IsValidMessage, segments}
use Rattle.segmenting.specs.Joining.{message_count}
use Rattle.lapdm_window.specs.declared.Sapi.{Sapi}
use Rattle.lapdm_window.specs.declared.Sapi.TheVariants.{Zero, Three}
use Rattle.lapdm_window.specs.declared.State.{State}
use Rattle.lapdm_window.specs.declared.State.TheVariants.{Idle, Opening, Open, Closing}
use Rattle.lapdm_window.specs.declared.Notice.{Notice}

-- the side of an endpoint: mobile or network
pub data Role : Type 0 where
  Mobile : Role
  Network : Role

-- the state of an endpoint, with the whole history of its link
pub record EndpointState : Type 0 where
  pub role : Role
  pub sapi : Sapi
  pub channel : Channel
  pub state : State
  -- the information of the SABM that this endpoint sent, or of the SABM that established its link
  pub sabm_info : Message
  -- all messages that layer 3 has passed to this endpoint to send in I frames, in order
  pub messages : List Message
  -- the number of segments acknowledged so far, over all messages
  pub acked_segments : ℕ
  -- the number of segments sent so far, over all messages
  pub sent_segments : ℕ
  -- all segments that this endpoint has accepted from its peer, in order
  pub accepted_segments : List Segment
  -- the reject condition: a REJ was sent, and no segment has been accepted since
  pub rejecting : Bool
  -- how many times the frame that awaits a response or an acknowledgement has been repeated
  pub retries : ℕ

-- the initial state of an endpoint
abbrev pub initial_endpoint : Role → Sapi → Channel → EndpointState
initial_endpoint role sapi channel = record {
  role = role;
  sapi = sapi;
  channel = channel;
  state = Idle;
  sabm_info = [];
  messages = [];
  acked_segments = 0;
  sent_segments = 0;
  accepted_segments = [];
  rejecting = false;
  retries = 0;
}

-- the segments of all messages that layer 3 has passed to this endpoint, in order
abbrev pub segments_of_all_messages : EndpointState → List Segment
segments_of_all_messages e = flat_map (segments (n201 e.channel)) e.messages

-- the outstanding segment or, if none is outstanding, the next segment to send
abbrev pub first_unacked_segment : EndpointState → Segment
first_unacked_segment e = slice_index_or (segments_of_all_messages e) e.acked_segments ([], false)

-- the window size is 1 (section 5.8.4): at most one segment has been sent but not yet acknowledged
pub record HasWindowOfOne (e : EndpointState) : Type 0 where
  pub messages : All IsValidMessage e.messages
  pub sent_segments : e.sent_segments ≤ length (segments_of_all_messages e)
  pub acked_at_most_sent : e.acked_segments ≤ e.sent_segments
  pub window : e.sent_segments ≤ e.acked_segments + 1

-- the link has not been established yet: the state is Idle or Opening
abbrev pub IsBeforeOpen : State → Type 0
IsBeforeOpen Idle = Unit {0}
IsBeforeOpen Opening = Unit {0}
IsBeforeOpen other = ⊥

-- an endpoint in this state can keep this information of a SABM: none in Idle and on SAPI 3, otherwise at least one octet (section
-- 5.4.1.4)
abbrev pub IsPossibleSabmInfo : (state : State) (sapi : Sapi) (info : Message) → Type 0
IsPossibleSabmInfo Idle sapi info = info ≡ []
IsPossibleSabmInfo state Three info = info ≡ []
IsPossibleSabmInfo state Zero info = 1 ≤ length info

-- the invariant of an endpoint: its window size is 1; its SABM information is possible in its state and fits in a frame; only a mobile
-- sends the SABM of SAPI 0; before state Open, it has taken no message from layer 3 and accepted no segment
pub record IsValidEndpoint (e : EndpointState) : Type 0 where
  pub window : HasWindowOfOne e
  pub sabm_info_fits : length e.sabm_info ≤ n201 e.channel
  pub possible_sabm_info : IsPossibleSabmInfo e.state e.sapi e.sabm_info
  pub mobile_opens_sapi0 : e.state ≡ Opening → e.sapi ≡ Zero → e.role ≡ Mobile
  pub no_message_before_open : IsBeforeOpen e.state → e.messages ≡ []
  pub no_segment_before_open : IsBeforeOpen e.state → e.accepted_segments ≡ []

-- whether an I frame is outstanding, that is, sent but not yet acknowledged
abbrev pub awaits_ack : EndpointState → Bool
awaits_ack e = not (nat_eq e.sent_segments e.acked_segments)

-- the send state variable V(S), 0 to 7 (section 3.5.2)
abbrev pub vs : EndpointState → ℕ
vs e = e.sent_segments % 8

-- the acknowledge state variable V(A), 0 to 7 (section 3.5.2)
abbrev pub va : EndpointState → ℕ
va e = e.acked_segments % 8

-- the receive state variable V(R), 0 to 7 (section 3.5.2)
abbrev pub vr : EndpointState → ℕ
vr e = length e.accepted_segments % 8

-- the number of fully acknowledged messages: all segments of these messages are acknowledged
abbrev pub acked_message_count : EndpointState → ℕ
acked_message_count e = message_count (take e.acked_segments (segments_of_all_messages e))

-- the number of messages with at least one unacknowledged segment
abbrev pub unacked_message_count : EndpointState → ℕ
unacked_message_count e = length e.messages - acked_message_count e

-- a message number limited to 2^64 - 1, as notices report it (this project's own rule)
abbrev pub capped_at_64_bits : (number : ℕ) → ℕ
capped_at_64_bits n = min n (2 ^ 64 - 1)

-- N200 (section 5.8.2): how many times a frame is repeated before the link fails, for this channel and link state
abbrev pub n200 : Channel → State → ℕ
n200 Sdcch Open = 23
n200 channel state = 5

-- whether a frame awaits a response or an acknowledgement, given the link state and whether an I frame is outstanding: the SABM in Opening,
-- the DISC in Closing, or the outstanding I frame in Open
abbrev pub awaits_answer_in_state : (state : State) (waiting : Bool) → Bool
awaits_answer_in_state Opening waiting = true
awaits_answer_in_state Closing waiting = true
awaits_answer_in_state Open waiting = waiting
awaits_answer_in_state other waiting = false

-- whether an endpoint waits for the response to a SABM or a DISC, or for the acknowledgement of an I frame
abbrev pub awaits_answer : EndpointState → Bool
awaits_answer e = awaits_answer_in_state e.state (awaits_ack e)

-- the result of a step of an endpoint: its state afterwards, the frames that it sends, and the notices that it reports to layer 3
pub record Outcome : Type 0 where
  pub new_state : EndpointState
  pub frames : List Frame
  pub notices : List Notice

-- the endpoint does nothing: it sends no frame, reports nothing, and keeps its state
abbrev pub no_effect : EndpointState → Outcome
no_effect e = record { new_state = e; frames = []; notices = [] }

-- the endpoint sends one frame
abbrev pub sends_frame : Frame → EndpointState → Outcome
sends_frame f e = record { new_state = e; frames = f ∷ []; notices = [] }

-- the endpoint reports one notice to layer 3
abbrev pub reports_notice : Notice → EndpointState → Outcome
reports_notice n e = record { new_state = e; frames = []; notices = n ∷ [] }

-- sequential composition of an outcome and a rule: the rule starts in the state after the outcome, and its frames and notices follow those
-- of the outcome
infixl 30 ◌then◌
abbrev pub ◌then◌ : Outcome → (EndpointState → Outcome) → Outcome
o then rule =
    let next = rule o.new_state in
    record { new_state = next.new_state; frames = o.frames ++ next.frames; notices = o.notices ++ next.notices }

-- the C/R bit of commands that this side sends (section 3.3.2); its responses have the opposite bit
abbrev pub command_cr : Role → Bool
command_cr Mobile = false
command_cr Network = true

-- the SAPI as a number
abbrev pub sapi_number : Sapi → ℕ
sapi_number Zero = 0
sapi_number Three = 3

-- a command frame from this endpoint, with this content
abbrev pub command_frame : EndpointState → Content → Frame
command_frame e content = record { sapi = sapi_number e.sapi; cr = command_cr e.role; content = content }

-- a response frame from this endpoint, with this content
abbrev pub response_frame : EndpointState → Content → Frame
response_frame e content = record { sapi = sapi_number e.sapi; cr = not (command_cr e.role); content = content }
