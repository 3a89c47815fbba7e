-- What a link does to its endpoint in a slot, and how soon it answers an I frame.
use Rattle.std.specs.Prelude.{◌≡◌, ◌≢◌, ◌⊎◌, ℕ, Bool, true, false, not, ◌&&◌, [], ◌∷◌, Option, Some, None}
use Rattle.lapdm_frame.specs.Content.{Content, I, Rr, Rej, Sabm, Dm, Ua, Frame}
use Rattle.lapdm_end.specs.lapdm_window.declared.Sapi.TheVariants.{Three}
use Rattle.lapdm_end.specs.lapdm_window.declared.State.TheVariants.{Opening, Open, Closing, Closed}
use Rattle.lapdm_end.specs.lapdm_window.segmenting.Segments.{Message, Segment}
use Rattle.lapdm_end.specs.lapdm_window.declared.Notice.TheVariants.{Opened}
use Rattle.lapdm_end.specs.lapdm_window.declared.Notice.TheVariants as N
use Rattle.lapdm_end.specs.lapdm_window.declared.Reason.TheVariants.{Failed}
use Rattle.lapdm_end.specs.lapdm_window.Ends.{awaits_answer, command_cr, response_frame, IsPossibleSabmInfo}
use Rattle.lapdm_end.specs.lapdm_window.Tables.{is_command, answers_repeated_sabm}
use Rattle.lapdm_end.specs.lapdm_window.Rules.{takes_i_frame}
use Rattle.lapdm_end.specs.lapdm_window.Calls.{Repeats, T200Expires, call_outcome}
use Rattle.lapdm_datalink.specs.Links.{LinkState, SlotOutcome, with_outcome, first_frame, is_due, keeps_back, slot_outcome, after_slot}
use Rattle.lapdm_datalink.specs.Links.{after_received, heard_with, received_notices, after_establishment}
use Rattle.lapdm_datalink.specs.DataLinks.{DataLinkState, data_link_outcome, after_arrival, arrival_notices, with_clocks_moved, on_sapi0}

-- the link sends nothing, or the answer that it owed, and its endpoint does and reports nothing
pub record SendsNoCommand (l : LinkState) (o : SlotOutcome) : Type 0 where
  pub endpoint : o.link.endpoint ≡ l.endpoint
  pub frame : (o.frame ≡ None) ⊎ (o.frame ≡ l.answer)
  pub notices : o.notices ≡ []

-- the endpoint sends the frame that awaits an answer, by a repetition that is not counted or by the expiry of T200
pub record SendsAwaited (l : LinkState) (o : SlotOutcome) : Type 0 where
  pub awaits : awaits_answer l.endpoint ≡ true
  pub repeats : o.link.endpoint ≡ (call_outcome Repeats l.endpoint).new_state
  pub frame : o.frame ≡ first_frame (call_outcome Repeats l.endpoint).frames
  pub notices : o.notices ≡ []

pub record Expires (l : LinkState) (o : SlotOutcome) : Type 0 where
  pub awaits : awaits_answer l.endpoint ≡ true
  pub expires : o.link.endpoint ≡ (call_outcome T200Expires l.endpoint).new_state
  pub frame : o.frame ≡ first_frame (call_outcome T200Expires l.endpoint).frames
  pub notices : o.notices ≡ (call_outcome T200Expires l.endpoint).notices

-- a slot of a link is one of these three
abbrev pub IsStepOfEndpoint : (link : LinkState) (outcome : SlotOutcome) → Type 0
IsStepOfEndpoint l o = SendsNoCommand l o ⊎ SendsAwaited l o ⊎ Expires l o

-- the N(R) of a frame, if it has one
abbrev pub nr_in : Content → Option ℕ
nr_in (I ns nr p more info) = Some nr
nr_in (Rr nr pf) = Some nr
nr_in (Rej nr pf) = Some nr
nr_in other = None

abbrev pub nr_of : Option Frame → Option ℕ
nr_of None = None
nr_of (Some f) = nr_in f.content

-- the link after it takes an I frame in Open
abbrev pub took : (ns nr : ℕ) (poll : Bool) (segment : Segment) (link : LinkState) → LinkState
took ns nr p segment l = with_outcome (takes_i_frame ns nr p segment l.endpoint) l

-- whether the answer that a link owes, if any, goes out in its slot
abbrev pub answer_goes : (answer : Option Frame) (link : LinkState) → Bool
answer_goes None l = false
answer_goes (Some f) l = not (keeps_back f l)

-- whether T200 expires in the slot of this link: the frame that awaits an answer was sent, it is due, and no answer goes first. It is
-- repeated then, or the link is given up.
abbrev pub expires_in : LinkState → Bool
expires_in l = is_due l && l.is_sent && not (answer_goes l.answer l)

-- The link of SAPI 0 of a data link does what it would do alone: in a slot, and when a frame arrives. If it sends a frame, the data link
-- sends it, with SAPI 0; if it sends none, the link of SAPI 3 has the slot.
pub record GoesFirst (s : DataLinkState) : Type 0 where
  pub slot : (data_link_outcome s).new_state.link0 ≡ (slot_outcome (after_slot s.link0)).link
  pub frame : (f : Frame) → (slot_outcome (after_slot s.link0)).frame ≡ Some f → (data_link_outcome s).frame
      ≡ Some (on_sapi0 s.link0.endpoint.sapi f)
  pub none : (slot_outcome (after_slot s.link0)).frame ≡ None →
      (data_link_outcome s).frame ≡ (slot_outcome (with_clocks_moved s).link3).frame
  pub notices : (data_link_outcome s).notices0 ≡ (slot_outcome (after_slot s.link0)).notices
  pub arrival : (f : Frame) → f.sapi ≡ 0 → (after_arrival f s).link0 ≡ after_received f s.link0
  pub other_arrival : (f : Frame) → f.sapi ≢ 0 → (after_arrival f s).link0 ≡ s.link0

-- ---- a SABM in Open

-- a SABM from the other side arrives at an open link, with the information that opened it
pub record IsSabmThatOpened (f : Frame) (l : LinkState) : Type 0 where
  pub state : l.endpoint.state ≡ Open
  pub possible : IsPossibleSabmInfo Open l.endpoint.sapi l.endpoint.sabm_info
  pub command : is_command l.endpoint f ≡ true
  pub content : f.content ≡ Sabm true l.endpoint.sabm_info
  pub answered : answers_repeated_sabm l.endpoint.sapi l.endpoint.role ≡ true

-- it is a repeat: the endpoint stays as it is, the link reports nothing, and owes the UA
pub record IsRepeat (f : Frame) (l : LinkState) : Type 0 where
  pub endpoint : (after_received f l).endpoint ≡ l.endpoint
  pub notices : received_notices f l ≡ []
  pub answer : (after_received f l).answer ≡ Some (response_frame l.endpoint (Ua true l.endpoint.sabm_info))

-- both sides count from 0, and the link holds and has heard nothing
pub record CountsFromZero (l : LinkState) : Type 0 where
  pub accepted : l.endpoint.accepted_segments ≡ []
  pub sent : l.endpoint.sent_segments ≡ 0
  pub acked : l.endpoint.acked_segments ≡ 0
  pub messages : l.endpoint.messages ≡ []
  pub heard : l.heard ≡ false

-- it opens the link again: the link starts afresh, reports the opening, and owes the UA
pub record IsNewOpening (f : Frame) (l : LinkState) : Type 0 where
  pub state : (after_received f l).endpoint.state ≡ Open
  pub fresh : CountsFromZero (after_received f l)
  pub notices : received_notices f l ≡ Opened l.endpoint.sabm_info ∷ []
  pub answer : (after_received f l).answer ≡ Some (response_frame l.endpoint (Ua true l.endpoint.sabm_info))

-- ---- a SABM in Closing

-- a SABM from the other side arrives at a link that is being released
pub record IsSabmInClosing (f : Frame) (l : LinkState) : Type 0 where
  pub state : l.endpoint.state ≡ Closing
  pub command : is_command l.endpoint f ≡ true
  pub info : Message
  pub content : f.content ≡ Sabm true info

-- it is refused: the endpoint stays as it is, the link reports nothing, and sends a DM in its next slot
pub record IsRefused (f : Frame) (l : LinkState) : Type 0 where
  pub endpoint : (after_received f l).endpoint ≡ l.endpoint
  pub notices : received_notices f l ≡ []
  pub dm : (slot_outcome (after_slot (after_received f l))).frame ≡ Some (response_frame l.endpoint (Dm true))

-- ---- a DM with F = 1 in Open

-- a DM with F = 1 arrives at an open link, from the other side
pub record IsFinalDmInOpen (f : Frame) (l : LinkState) : Type 0 where
  pub state : l.endpoint.state ≡ Open
  pub response : is_command l.endpoint f ≡ false
  pub content : f.content ≡ Dm true

-- it ends the link as failed
pub record EndsAsFailed (f : Frame) (l : LinkState) : Type 0 where
  pub state : (after_received f l).endpoint.state ≡ Closed
  pub notices : received_notices f l ≡ N.Closed Failed ∷ []

-- a received frame changes nothing of the link but what it has heard, and nothing is reported
pub record ChangesNothing (f : Frame) (l : LinkState) : Type 0 where
  pub link : after_received f l ≡ record l { heard = heard_with f l }
  pub notices : received_notices f l ≡ []

-- ---- normal establishment

-- a SABM without information arrives for the link of SAPI 0, from the other side
pub record IsBareSabm (f : Frame) (s : DataLinkState) : Type 0 where
  pub sapi : f.sapi ≡ 0
  pub command : is_command s.link0.endpoint f ≡ true
  pub content : f.content ≡ Sabm true []

-- it opens this link by normal establishment: the data link reports the opening, and its next slot carries the UA, with SAPI 0
pub record IsNormalOpening (f : Frame) (s : DataLinkState) : Type 0 where
  pub state : (after_arrival f s).link0.endpoint.state ≡ Open
  pub normal : (after_arrival f s).link0.endpoint.sapi ≡ Three
  pub notices : arrival_notices f s ≡ Opened [] ∷ []
  pub answer : (data_link_outcome (after_arrival f s)).frame
      ≡ Some (record { sapi = 0; cr = not (command_cr s.link0.endpoint.role); content = Ua true [] })

-- layer 3 establishes a link without information: it is one of normal establishment and afresh, and its next slot carries the SABM
pub record IsEstablishedAfresh (l : LinkState) : Type 0 where
  pub state : (after_establishment l).endpoint.state ≡ Opening
  pub normal : (after_establishment l).endpoint.sapi ≡ Three
  pub fresh : CountsFromZero (after_establishment l)
  pub answer : (after_establishment l).answer ≡ None
  pub sabm : (slot_outcome (after_slot (after_establishment l))).frame
      ≡ Some (record { sapi = 3; cr = command_cr l.endpoint.role; content = Sabm true [] })
