-- One link of a data link: an endpoint, the answer that it owes, and T200 in slots. A link has no queue: what it sends in a slot is a
-- function of this state. T200 is that of GSM 04.06, section 5.8.1; all other rules here are this project's own.
use Rattle.std.specs.Prelude.{ℕ, ◌-◌, Bool, true, false, not, ◌&&◌, ◌||◌, if◌then◌else◌, nat_eq, List, [], ◌∷◌}
use Rattle.std.specs.Prelude.{drop}
use Rattle.std.specs.Str.{bytes_eq}
use Rattle.std.specs.Prelude.{Option, Some}
use Rattle.std.specs.Prelude.{None}
use Rattle.lapdm_frame.specs.Content.{Content, I, Rr, Rnr, Rej, Sabm, Dm, Ui, Disc, Ua, Frame}
use Rattle.lapdm_end.specs.lapdm_window.declared.Sapi.{Sapi}
use Rattle.lapdm_end.specs.lapdm_window.declared.Sapi.TheVariants.{Zero, Three}
use Rattle.lapdm_end.specs.lapdm_window.declared.State.{State}
use Rattle.lapdm_end.specs.lapdm_window.declared.State.TheVariants.{Opening, Closing, Closed}
use Rattle.lapdm_end.specs.lapdm_window.declared.Notice.{Notice}
use Rattle.lapdm_end.specs.lapdm_window.segmenting.Segments.{Message}
use Rattle.lapdm_end.specs.lapdm_window.Ends.{Role, Network, EndpointState, Outcome, initial_endpoint, awaits_answer, command_frame}
use Rattle.lapdm_end.specs.lapdm_window.Ends.{sapi_number, vs, va, acked_message_count, awaits_ack}
use Rattle.lapdm_end.specs.lapdm_window.Rules.{is_open}
use Rattle.lapdm_end.specs.lapdm_window.Tables.{Reply, SendsDm, reply_to_frame, outcome_of_reply, is_command, answers_repeated_sabm}
use Rattle.lapdm_end.specs.lapdm_window.Calls.{Call, Opens, OpensWithoutInfo, Sends, Closes, awaited_frame}
use Rattle.lapdm_end.specs.lapdm_window.Calls.{t200_expiry, call_outcome}

-- the state of a link
pub record LinkState : Type 0 where
  pub endpoint : EndpointState
  -- T200 in slots
  pub t200 : ℕ
  -- the answer (UA, DM, RR or REJ) that waits for a slot
  pub answer : Option Frame
  -- whether the frame that awaits an answer has been sent
  pub is_sent : Bool
  -- the slots until that frame is due; it is due at 0
  pub clock : ℕ
  -- whether the other side, since this link is open, has sent what it sends in Open alone: an I, RR, RNR or REJ
  pub heard : Bool

-- a link with this endpoint and T200 that has sent and heard nothing
abbrev pub link_with : (endpoint : EndpointState) (t200 : ℕ) → LinkState
link_with e t = record { endpoint = e; t200 = t; answer = None; is_sent = false; clock = 0; heard = false }

-- the link but for what it has heard, which plays no part while each link is opened once
abbrev pub unheard : LinkState → LinkState
unheard l = record l { heard = false }

-- the link afresh: with the initial endpoint of its role, SAPI and channel
abbrev pub afresh : LinkState → LinkState
afresh l = link_with (initial_endpoint l.endpoint.role l.endpoint.sapi l.endpoint.channel) l.t200

-- The link afresh as one of normal establishment: either side opens it without information, as section 5.4.1.2 has it for SAPI 3. So the
-- endpoint of a link of SAPI 0 is one of SAPI 3, and only its frames carry SAPI 0; with contention resolution it is one of SAPI 0.
abbrev pub as_normal : LinkState → LinkState
as_normal l = link_with (initial_endpoint l.endpoint.role Three l.endpoint.channel) l.t200

-- the messages that layer 3 passed to the endpoint and that the other side has not acknowledged whole, in order
abbrev pub unacked_messages : EndpointState → List Message
unacked_messages e = drop (acked_message_count e) e.messages

-- ---- what the endpoint returns

-- whether a frame with this content awaits an answer
abbrev pub is_awaiting_kind : Content → Bool
is_awaiting_kind (I ns nr p more info) = true
is_awaiting_kind (Sabm p info) = true
is_awaiting_kind (Disc p) = true
is_awaiting_kind other = false

-- the link after its endpoint returns this frame: a frame that awaits an answer is due now, and any other replaces the answer owed
abbrev pub with_frame : Frame → LinkState → LinkState
with_frame f l = if is_awaiting_kind f.content then record l { is_sent = false; clock = 0 } else record l { answer = Some f }

-- the link after its endpoint returns these frames, in order
abbrev pub with_frames : List Frame → LinkState → LinkState
with_frames [] l = l
with_frames (f ∷ fs) l = with_frames fs (with_frame f l)

-- the link after its endpoint has this outcome
abbrev pub with_outcome : Outcome → LinkState → LinkState
with_outcome o l = with_frames o.frames (record l { endpoint = o.new_state })

-- ---- a second opening without information finds the link afresh

-- whether the state is Closed
abbrev pub is_closed : State → Bool
is_closed Closed = true
is_closed other = false

-- whether the call or frame opens a link without information
abbrev pub is_opening_call : Call → Bool
is_opening_call OpensWithoutInfo = true
is_opening_call other = false

abbrev pub is_opening_content : Content → Bool
is_opening_content (Sabm p []) = true
is_opening_content other = false

abbrev pub is_sapi3 : Sapi → Bool
is_sapi3 Zero = false
is_sapi3 Three = true

-- whether a link that is closed or open is opened again by this call, or one that is closed by this received frame
abbrev pub is_reopened_by_call : Call → LinkState → Bool
is_reopened_by_call call l = (is_closed l.endpoint.state || is_open l.endpoint.state) && is_opening_call call

abbrev pub is_reopened_by_frame : Frame → LinkState → Bool
is_reopened_by_frame f l =
    is_sapi3 l.endpoint.sapi && is_closed l.endpoint.state && is_opening_content f.content && is_command l.endpoint f

-- the link as a call, or a received frame, finds it
abbrev pub for_call : Call → LinkState → LinkState
for_call call l = if is_reopened_by_call call l then afresh l else l

abbrev pub for_frame : Frame → LinkState → LinkState
for_frame f l = if is_reopened_by_frame f l then afresh l else l

-- ---- calls and received frames

-- the calls of layer 3 that a link carries out: it opens, sends over or closes the link
abbrev pub IsLinkCall : Call → Type 0
IsLinkCall (Opens info) = Unit {0}
IsLinkCall OpensWithoutInfo = Unit {0}
IsLinkCall (Sends m) = Unit {0}
IsLinkCall Closes = Unit {0}
IsLinkCall other = ⊥

-- the link after it carries out a call of layer 3
abbrev pub after_call : Call → LinkState → LinkState
after_call call l = let m = for_call call l in with_outcome (call_outcome call m.endpoint) m

-- whether layer 3 may establish a link in this state: it is neither being opened nor being released
abbrev pub may_be_established : State → Bool
may_be_established Opening = false
may_be_established Closing = false
may_be_established other = true

-- the link as normal establishment finds it: one with contention resolution becomes one of normal establishment
abbrev pub for_establishment : LinkState → LinkState
for_establishment l =
    if not (is_sapi3 l.endpoint.sapi) && may_be_established l.endpoint.state then as_normal l else for_call OpensWithoutInfo l

-- the link after layer 3 begins to establish it without information
abbrev pub after_establishment : LinkState → LinkState
after_establishment l = let m = for_establishment l in with_outcome (call_outcome OpensWithoutInfo m.endpoint) m

-- the UI frame that an endpoint sends with this message, which changes nothing
abbrev pub ui_frame : (m : Message) (endpoint : EndpointState) → Frame
ui_frame m e = command_frame e (Ui false m)

-- whether a frame with this content answers a SABM or DISC
abbrev pub is_unnumbered_answer : Content → Bool
is_unnumbered_answer (Ua f info) = true
is_unnumbered_answer (Dm f) = true
is_unnumbered_answer other = false

-- whether the endpoint waits for the answer to a SABM or DISC
abbrev pub awaits_unnumbered_answer : State → Bool
awaits_unnumbered_answer Opening = true
awaits_unnumbered_answer Closing = true
awaits_unnumbered_answer other = false

-- whether the frame answers a SABM or DISC that was not sent yet
abbrev pub is_too_early : Frame → LinkState → Bool
is_too_early f l = is_unnumbered_answer f.content && awaits_unnumbered_answer l.endpoint.state && not l.is_sent

-- whether this is the content of a DM with F = 1
abbrev pub is_final_dm : Content → Bool
is_final_dm (Dm f) = f
is_final_dm other = false

-- whether the outstanding I frame was repeated, with P = 1 (section 5.5.7)
abbrev pub has_polled : EndpointState → Bool
has_polled e = awaits_ack e && not (nat_eq e.retries 0)

-- whether the frame is a DM with F = 1 that no frame of the open link asked for (section 5.4.5)
abbrev pub is_unasked_dm : Frame → EndpointState → Bool
is_unasked_dm f e = is_final_dm f.content && is_open e.state && not (has_polled e)

-- whether the link ignores a received frame
abbrev pub ignores : Frame → LinkState → Bool
ignores f l = is_too_early f l || is_unasked_dm f l.endpoint

-- N(R) as the endpoint takes it: V(S) acknowledges nothing, as V(A), while the I frame with the N(S) before it waits for its slot
abbrev pub nr_as_taken : (nr : ℕ) (link : LinkState) → ℕ
nr_as_taken nr l = if not l.is_sent && nat_eq nr (vs l.endpoint) then va l.endpoint else nr

-- the content of a frame as the endpoint takes it: a REJ counts as an RR
abbrev pub content_as_taken : Content → LinkState → Content
content_as_taken (I ns nr p more info) l = I ns (nr_as_taken nr l) p more info
content_as_taken (Rr nr pf) l = Rr (nr_as_taken nr l) pf
content_as_taken (Rej nr pf) l = Rr (nr_as_taken nr l) pf
content_as_taken other l = other

-- the frame as the endpoint takes it, with the SAPI of the endpoint
abbrev pub as_taken : Frame → LinkState → Frame
as_taken f l = record f { sapi = sapi_number l.endpoint.sapi; content = content_as_taken f.content l }

-- whether the state is Closing
abbrev pub is_closing : State → Bool
is_closing Closing = true
is_closing other = false

-- whether this is the content of a SABM
abbrev pub is_sabm : Content → Bool
is_sabm (Sabm p info) = true
is_sabm other = false

-- whether the link refuses a received frame: the other side opens the link while it is being released here
abbrev pub refuses : Frame → EndpointState → Bool
refuses f e = is_sabm f.content && is_closing e.state && is_command e f

-- the reply to a received frame: a DM if the link refuses it (section 5.4.6.2), otherwise that of the endpoint
abbrev pub link_reply : Frame → LinkState → Reply
link_reply f l = if refuses f l.endpoint then SendsDm else reply_to_frame (as_taken f l) l.endpoint

-- what the link does with a received frame
abbrev pub received_outcome : Frame → LinkState → Outcome
received_outcome f l = outcome_of_reply (link_reply f l) l.endpoint

-- the link after it takes a frame of its SAPI, unless the frame opens an open link again
abbrev pub after_frame : Frame → LinkState → LinkState
after_frame f l = if ignores f l then l else (let m = for_frame f l in with_outcome (received_outcome f m) m)

-- the notices that it reports then
abbrev pub frame_notices : Frame → LinkState → List Notice
frame_notices f l = if ignores f l then [] else (received_outcome f (for_frame f l)).notices

-- ---- the other side opens again a link that is open here

-- whether a side sends a frame with this content in Open alone, where N(R) has a meaning: an I frame, a command, or an RR, RNR or REJ
abbrev pub is_numbered : (is_command : Bool) (content : Content) → Bool
is_numbered is_command (I ns nr p more info) = is_command
is_numbered is_command (Rr nr pf) = true
is_numbered is_command (Rnr nr pf) = true
is_numbered is_command (Rej nr pf) = true
is_numbered is_command other = false

-- whether this is the content of the SABM that opened the link of this endpoint, as the endpoint answers it in Open
abbrev pub is_sabm_that_opened : Content → EndpointState → Bool
is_sabm_that_opened (Sabm p info) e = answers_repeated_sabm e.sapi e.role && bytes_eq info e.sabm_info
is_sabm_that_opened other e = false

-- Whether a received SABM opens an open link again (section 5.5.1.2). A side sends its SABM again until the UA arrives, and I, RR, RNR and
-- REJ frames only after that. So a SABM that arrives before any of these is a repeat, and one that arrives after is of a new opening.
abbrev pub is_opened_again : Frame → LinkState → Bool
is_opened_again f l =
    l.heard && is_open l.endpoint.state && is_command l.endpoint f && is_sabm_that_opened f.content l.endpoint

-- whether the other side opens a link of this SAPI and side with contention resolution: that of SAPI 0 at the network
abbrev pub is_opened_with_contention : Sapi → Role → Bool
is_opened_with_contention Zero Network = true
is_opened_with_contention sapi role = false

-- Whether a received SABM says that the mobile returns to this channel, after an assignment or a handover that failed: it has no
-- information, and the link, which is open, was opened with some.
abbrev pub is_return : Frame → LinkState → Bool
is_return f l =
    is_opened_with_contention l.endpoint.sapi l.endpoint.role && is_open l.endpoint.state && is_command l.endpoint f
    && is_opening_content f.content

-- the link as a received frame of a new opening finds it
abbrev pub renewed_for : Frame → LinkState → LinkState
renewed_for f l = if is_opened_again f l then afresh l else (if is_return f l then as_normal l else l)

-- whether the link has heard an I, RR, RNR or REJ in Open once it has received this frame; a closed link that it opens again has not
abbrev pub heard_with : Frame → LinkState → Bool
heard_with f l =
    (l.heard && not (is_reopened_by_frame f l)) || (is_open l.endpoint.state && is_numbered (is_command l.endpoint f) f.content)

-- the link after it receives a frame of its SAPI
abbrev pub after_received : Frame → LinkState → LinkState
after_received f l = let m = renewed_for f l in record (after_frame f m) { heard = heard_with f m }

-- the notices that the link reports then
abbrev pub received_notices : Frame → LinkState → List Notice
received_notices f l = frame_notices f (renewed_for f l)

-- ---- what a link sends in a slot

-- the link after a slot has passed
abbrev pub after_slot : LinkState → LinkState
after_slot l = record l { clock = l.clock - 1 }

-- whether the frame that awaits an answer is due
abbrev pub is_due : LinkState → Bool
is_due l = awaits_answer l.endpoint && nat_eq l.clock 0

-- whether this is the content of an RR with F = 0, which says no more than the N(R) of an I frame
abbrev pub is_plain_rr : Content → Bool
is_plain_rr (Rr nr false) = true
is_plain_rr other = false

-- whether the state is Opening
abbrev pub is_opening : State → Bool
is_opening Opening = true
is_opening other = false

-- whether the own SABM was not sent yet; it goes before the UA to the SABM of the other side
abbrev pub sabm_goes_first : LinkState → Bool
sabm_goes_first l = is_due l && is_opening l.endpoint.state && not l.is_sent

-- whether the link keeps back this answer in a slot: an I frame that is due says it, or the own SABM goes first
abbrev pub keeps_back : Frame → LinkState → Bool
keeps_back f l = (is_plain_rr f.content && is_due l && is_open l.endpoint.state) || sabm_goes_first l

-- what a link does in a slot: its state afterwards, the frame for the slot, if any, and the notices reported
pub record SlotOutcome : Type 0 where
  pub link : LinkState
  pub frame : Option Frame
  pub notices : List Notice

-- the first of some frames, if any
abbrev pub first_frame : List Frame → Option Frame
first_frame [] = None
first_frame (f ∷ fs) = Some f

-- the link sends nothing
abbrev pub sends_nothing : LinkState → SlotOutcome
sends_nothing l = record { link = l; frame = None; notices = [] }

-- the link sends the answer that it owes
abbrev pub sends_answer : Frame → LinkState → SlotOutcome
sends_answer f l = record { link = record l { answer = None }; frame = Some f; notices = [] }

-- the frame that awaits an answer is sent for the first time, made now, and T200 starts
abbrev pub sends_awaited : LinkState → SlotOutcome
sends_awaited l = record {
  link = record l { is_sent = true; clock = l.t200 };
  frame = Some (awaited_frame false l.endpoint.state l.endpoint);
  notices = [];
}

-- T200 has expired: the frame is repeated and T200 starts again, or the link is given up
abbrev pub expires : LinkState → SlotOutcome
expires l =
    let o = t200_expiry l.endpoint in
    record { link = record l { endpoint = o.new_state; clock = l.t200 }; frame = first_frame o.frames; notices = o.notices }

-- the link without the answer that the frame that is due makes needless
abbrev pub without_needless_answer : LinkState → LinkState
without_needless_answer l = if sabm_goes_first l then l else record l { answer = None }

-- the link sends the frame that is due, if one is
abbrev pub sends_due_frame : LinkState → SlotOutcome
sends_due_frame l =
    if is_due l
    then (let m = without_needless_answer l in if l.is_sent then expires m else sends_awaited m)
    else sends_nothing l

-- what the link does in a slot that it may use, given the answer that it owes: it sends this answer, or the frame that is due
abbrev pub slot_outcome_owing : (answer : Option Frame) (link : LinkState) → SlotOutcome
slot_outcome_owing None l = sends_due_frame l
slot_outcome_owing (Some f) l = if keeps_back f l then sends_due_frame l else sends_answer f l

-- what the link does in a slot that it may use
abbrev pub slot_outcome : LinkState → SlotOutcome
slot_outcome l = slot_outcome_owing l.answer l
