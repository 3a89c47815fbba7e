-- How an endpoint reacts to a received frame in each state (GSM 04.06, section 5.4). A frame kind that is not listed for a state is
-- ignored. This rule, and everything that the cited sections leave open, is this project's own.
use Rattle.std.specs.Prelude.{ℕ, Bool, true, false, not, ◌&&◌, if◌then◌else◌, nat_eq, [], ◌∷◌}
use Rattle.std.specs.Bool.{beq}
use Rattle.std.specs.Str.{bytes_eq}
use Rattle.segmenting.specs.lapdm_frame.Content.{Content, I, Rr, Rnr, Rej, Sabm, Dm, Ui, Disc, Ua, Frame}
use Rattle.segmenting.specs.Segments.{Message, Segment}
use Rattle.lapdm_window.specs.declared.Sapi.{Sapi}
use Rattle.lapdm_window.specs.declared.Sapi.TheVariants.{Zero, Three}
use Rattle.lapdm_window.specs.declared.State.{State}
use Rattle.lapdm_window.specs.declared.State.TheVariants.{Idle, Opening, Open, Closing, Closed}
use Rattle.lapdm_window.specs.declared.Reason.{Reason}
use Rattle.lapdm_window.specs.declared.Reason.TheVariants as R
use Rattle.lapdm_window.specs.declared.Notice.TheVariants as N
use Rattle.lapdm_window.specs.Ends.{Role, Mobile, Network, EndpointState, Outcome, no_effect}
use Rattle.lapdm_window.specs.Ends.{sends_frame, reports_notice, ◌then◌, command_cr, sapi_number, response_frame}
use Rattle.lapdm_window.specs.Rules.{takes_i_frame, takes_rr, takes_rej}

-- whether a received frame is a command, by its C/R bit
abbrev pub is_command : EndpointState → Frame → Bool
is_command e f = not (beq f.cr (command_cr e.role))

-- whether an endpoint accepts a frame of this kind as a command, or as a response if `is_command` is false; it never accepts an RNR
abbrev pub is_accepted_kind : (is_command : Bool) (content : Content) → Bool
is_accepted_kind is_command (I ns nr p more info) = is_command
is_accepted_kind is_command (Rr nr pf) = true
is_accepted_kind is_command (Rnr nr pf) = false
is_accepted_kind is_command (Rej nr pf) = true
is_accepted_kind is_command (Sabm p info) = is_command
is_accepted_kind is_command (Dm f) = not is_command
is_accepted_kind is_command (Ui p info) = is_command
is_accepted_kind is_command (Disc p) = is_command
is_accepted_kind is_command (Ua f info) = not is_command

-- whether the frame is a poll, that is, an I, RR or REJ command with P = 1
abbrev pub is_poll : (is_command : Bool) (content : Content) → Bool
is_poll is_command (I ns nr p more info) = is_command && p
is_poll is_command (Rr nr pf) = is_command && pf
is_poll is_command (Rej nr pf) = is_command && pf
is_poll is_command other = false

-- the reaction of an endpoint to a received frame
pub data Reply : Type 0 where
  Nothing : Reply
  SendsDm : Reply
  SendsUa : (info : Message) → Reply
  -- the peer's SABM establishes the link, and the endpoint answers with a UA
  AcceptsSabm : (info : Message) → Reply
  -- a UA confirms the establishment that this endpoint started
  ConfirmsEstablishment : (info : Message) → Reply
  ClosesLink : (reason : Reason) → Reply
  -- the peer's DISC releases the link, and the endpoint answers with a UA
  AcceptsDisc : Reply
  -- the endpoint reports the information of a UI frame to layer 3
  ReportsUiInformation : (info : Message) → Reply
  -- the endpoint applies the window rules to a received I frame
  TakesIFrame : (ns nr : ℕ) (p : Bool) (segment : Segment) → Reply
  -- the endpoint applies the window rules to a received RR, which is a poll if `poll` is true
  TakesRr : (nr : ℕ) (poll : Bool) → Reply
  -- the endpoint applies the window rules to a received REJ, which is a poll if `poll` is true
  TakesRej : (nr : ℕ) (poll : Bool) → Reply

-- the endpoint sends a UA with F = 1
abbrev pub sends_ua : Message → EndpointState → Outcome
sends_ua info e = sends_frame (response_frame e (Ua true info)) e

-- the endpoint enters Open and reports the establishment to layer 3 with this information
abbrev pub opens_and_reports : Message → EndpointState → Outcome
opens_and_reports info e = reports_notice (N.Opened info) (record e { state = Open })

-- the endpoint enters Closed and reports this to layer 3 with the reason
abbrev pub closes_and_reports : Reason → EndpointState → Outcome
closes_and_reports reason e = reports_notice (N.Closed reason) (record e { state = Closed })

-- the outcome of carrying out a reply; every DM and UA sent has F = 1, and the information of an accepted SABM is kept
abbrev pub outcome_of_reply : Reply → EndpointState → Outcome
outcome_of_reply Nothing e = no_effect e
outcome_of_reply SendsDm e = sends_frame (response_frame e (Dm true)) e
outcome_of_reply (SendsUa info) e = sends_ua info e
outcome_of_reply (AcceptsSabm info) e = opens_and_reports info (record e { sabm_info = info }) then sends_ua info
outcome_of_reply (ConfirmsEstablishment info) e = opens_and_reports info e
outcome_of_reply (ClosesLink reason) e = closes_and_reports reason e
outcome_of_reply AcceptsDisc e = closes_and_reports R.Released e then sends_ua []
outcome_of_reply (ReportsUiInformation info) e = reports_notice (N.Unit info) e
outcome_of_reply (TakesIFrame ns nr p segment) e = takes_i_frame ns nr p segment e
outcome_of_reply (TakesRr nr poll) e = takes_rr nr poll e
outcome_of_reply (TakesRej nr poll) e = takes_rej nr poll e

-- the reply to a SABM in Idle (section 5.4.1.2): on SAPI 0, the mobile refuses it with a DM, and the network accepts it only with
-- information; on SAPI 3, either side accepts it only without information
abbrev pub reply_to_sabm_in_idle : Sapi → Role → Message → Reply
reply_to_sabm_in_idle Zero Mobile info = SendsDm
reply_to_sabm_in_idle Zero Network [] = Nothing
reply_to_sabm_in_idle Zero Network (x ∷ xs) = AcceptsSabm (x ∷ xs)
reply_to_sabm_in_idle Three role [] = AcceptsSabm []
reply_to_sabm_in_idle Three role (x ∷ xs) = Nothing

-- the reply to a frame that an endpoint ignores unless it is a poll: a DM if it is a poll, otherwise nothing (section 5.4.5)
abbrev pub dm_if_polled : Bool → Reply
dm_if_polled poll = if poll then SendsDm else Nothing

-- the reply to a frame in Idle; a DISC or a poll is answered with a DM (section 5.4.5)
abbrev pub reply_in_idle : (poll : Bool) (content : Content) (endpoint : EndpointState) → Reply
reply_in_idle poll (Sabm p info) e = reply_to_sabm_in_idle e.sapi e.role info
reply_in_idle poll (Disc p) e = SendsDm
reply_in_idle poll other e = dm_if_polled poll

-- the reply to a UA whose information differs from that of the SABM sent: on SAPI 0, the UA is meant for another mobile, so the link is
-- closed (contention resolution, section 5.4.1.4); on SAPI 3, the UA is ignored
abbrev pub reply_to_mismatched_ua : Sapi → Reply
reply_to_mismatched_ua Zero = ClosesLink R.Contention
reply_to_mismatched_ua Three = Nothing

-- the reply to a UA in Opening: the link is established if the UA repeats the information of the SABM sent (section 5.4.1.2)
abbrev pub reply_to_ua_in_opening : Message → EndpointState → Reply
reply_to_ua_in_opening info e = if bytes_eq info e.sabm_info then ConfirmsEstablishment info else reply_to_mismatched_ua e.sapi

-- the reply to a SABM in Opening: on SAPI 3, where both sides may send a SABM at once, a UA if the SABM has no information; otherwise
-- nothing
abbrev pub reply_to_sabm_in_opening : Sapi → Message → Reply
reply_to_sabm_in_opening Zero info = Nothing
reply_to_sabm_in_opening Three [] = SendsUa []
reply_to_sabm_in_opening Three (x ∷ xs) = Nothing

-- the reply to a frame in Opening; a DM with F = 1 means that the peer refuses the link (section 5.4.1.2)
abbrev pub reply_in_opening : Content → EndpointState → Reply
reply_in_opening (Sabm p info) e = reply_to_sabm_in_opening e.sapi info
reply_in_opening (Ua true info) e = reply_to_ua_in_opening info e
reply_in_opening (Dm true) e = ClosesLink R.Refused
reply_in_opening (Disc p) e = SendsDm
reply_in_opening other e = Nothing

-- whether an endpoint in Open answers a repeated SABM: always, except for the mobile on SAPI 0, which sent the SABM itself
abbrev pub answers_repeated_sabm : Sapi → Role → Bool
answers_repeated_sabm Zero Mobile = false
answers_repeated_sabm sapi role = true

-- the reply to a SABM in Open: a UA if it has the information of the SABM that established the link, otherwise nothing; the mobile on SAPI
-- 0 never replies
abbrev pub reply_to_sabm_in_open : Message → EndpointState → Reply
reply_to_sabm_in_open info e = if answers_repeated_sabm e.sapi e.role && bytes_eq info e.sabm_info then SendsUa info else Nothing

-- the reply to a frame in Open: I, RR and REJ follow the window rules, a DISC releases the link (section 5.4.4.2), and a DM closes it as
-- failed
abbrev pub reply_in_open : (is_command : Bool) (content : Content) (endpoint : EndpointState) → Reply
reply_in_open is_command (I ns nr p more info) e = TakesIFrame ns nr p (info, more)
reply_in_open is_command (Rr nr pf) e = TakesRr nr (is_command && pf)
reply_in_open is_command (Rej nr pf) e = TakesRej nr (is_command && pf)
reply_in_open is_command (Sabm p info) e = reply_to_sabm_in_open info e
reply_in_open is_command (Disc p) e = AcceptsDisc
reply_in_open is_command (Dm f) e = ClosesLink R.Failed
reply_in_open is_command other e = Nothing

-- the reply to a frame in Closing; a UA or a DM with F = 1 completes the release (section 5.4.4.2)
abbrev pub reply_in_closing : Content → Reply
reply_in_closing (Ua true []) = ClosesLink R.Released
reply_in_closing (Dm true) = ClosesLink R.Released
reply_in_closing (Disc p) = SendsUa []
reply_in_closing other = Nothing

-- the reply to a frame in Closed, which an endpoint never leaves: a DM to a SABM, a DISC or a poll, otherwise nothing
abbrev pub reply_in_closed : (poll : Bool) (content : Content) → Reply
reply_in_closed poll (Sabm p info) = SendsDm
reply_in_closed poll (Disc p) = SendsDm
reply_in_closed poll other = dm_if_polled poll

-- the reply to a frame other than UI, depending on the state of the endpoint
abbrev pub reply_in_state : (state : State) (is_command : Bool) (content : Content) (endpoint : EndpointState) → Reply
reply_in_state Idle is_command content e = reply_in_idle (is_poll is_command content) content e
reply_in_state Opening is_command content e = reply_in_opening content e
reply_in_state Open is_command content e = reply_in_open is_command content e
reply_in_state Closing is_command content e = reply_in_closing content
reply_in_state Closed is_command content e = reply_in_closed (is_poll is_command content) content

-- the reply to a UI frame, in every state: its information is reported to layer 3 if it is not empty
abbrev pub reply_to_ui : Message → Reply
reply_to_ui [] = Nothing
reply_to_ui (x ∷ xs) = ReportsUiInformation (x ∷ xs)

-- the reply to a frame that has the endpoint's SAPI and an accepted kind
abbrev pub reply : (is_command : Bool) (content : Content) (endpoint : EndpointState) → Reply
reply is_command (Ui p info) e = reply_to_ui info
reply is_command content e = reply_in_state e.state is_command content e

-- the reply to any received frame; a frame with another SAPI, an RNR, or a frame with the wrong C/R bit for its kind is ignored
abbrev pub reply_to_frame : Frame → EndpointState → Reply
reply_to_frame f e =
    if nat_eq f.sapi (sapi_number e.sapi) && is_accepted_kind (is_command e f) f.content
    then reply (is_command e f) f.content e
    else Nothing

-- the outcome when an endpoint receives this frame
abbrev pub frame_outcome : Frame → EndpointState → Outcome
frame_outcome f e = outcome_of_reply (reply_to_frame f e) e
