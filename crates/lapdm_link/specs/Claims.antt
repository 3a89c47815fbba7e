-- Claims about a session between a mobile and a network, stated over its log, which lists the calls made and the notices reported in order.
-- Each claim covers both endpoints of both links (SAPI 0 and 3).
use Rattle.std.specs.Prelude.{◌≡◌, ℕ, ◌+◌, ◌≤◌, Bool, true, false, ◌&&◌, if◌then◌else◌, nat_eq, List, []}
use Rattle.std.specs.Prelude.{◌∷◌, ◌++◌, map, length, Option, Some, None, Contains, ◌⊎◌}
use Rattle.std.specs.List.{filter_map}
use Rattle.lapdm_window.specs.segmenting.Segments.{Message}
use Rattle.lapdm_window.specs.declared.Sapi.{Sapi}
use Rattle.lapdm_window.specs.declared.Sapi.TheVariants.{Zero, Three}
use Rattle.lapdm_window.specs.declared.Reason.{Reason}
use Rattle.lapdm_window.specs.declared.Notice.{Notice}
use Rattle.lapdm_window.specs.declared.Notice.TheVariants as N
use Rattle.lapdm_window.specs.Ends.{Role, Mobile, Network, sapi_number, capped_at_64_bits}
pub use Rattle.lapdm_window.specs.Steps.{message_in_got_notice}
use Rattle.lapdm_window.specs.Calls.{Call, Opens, OpensWithoutInfo, Sends, SendsUi, Closes}
use Rattle.lapdm_link.specs.Events.{SessionEvent, Open, OpenBare, Ask, Rival, Answer, Refuses, Accepts, Who, BySide, endpoint_call_of}
use Rattle.lapdm_link.specs.Events.{other}

-- a line of the log: a call that was not refused, a SABM sent by another mobile, or a notice that an endpoint reported
pub data LogLine : Type 0 where
  Asked : Role → Sapi → Call → LogLine
  RivalSabm : Message → LogLine
  Notified : Role → Sapi → Notice → LogLine

-- the log lines of an event: one for a call to an endpoint or for the SABM of another mobile, none for any other event
abbrev pub event_log_lines : {Arrival : Type 0} → SessionEvent Arrival → List LogLine
event_log_lines (Open info) = Asked Mobile Zero (Opens info) ∷ []
event_log_lines (OpenBare role) = Asked role Three OpensWithoutInfo ∷ []
event_log_lines (Ask role sapi request) = Asked role sapi (endpoint_call_of request) ∷ []
event_log_lines (Rival info) = RivalSabm info ∷ []
event_log_lines other = []

-- the log lines of the notices that a side reports in a step; if another mobile or nobody acts, there are none
abbrev pub notice_log_lines : (who : Who) (sapi : Sapi) (notices : List Notice) → List LogLine
notice_log_lines (BySide role) sapi ns = map (Notified role sapi) ns
notice_log_lines who sapi ns = []

-- the log lines of an event and its answer: first the event, then the notices; a refused event has no lines
abbrev pub answer_log_lines : {Arrival : Type 0} → SessionEvent Arrival → Answer → List LogLine
answer_log_lines event (Refuses why) = []
answer_log_lines event (Accepts who sapi frames notices) = event_log_lines event ++ notice_log_lines who sapi notices

-- the log of a session with these events and answers
abbrev pub session_log : {Arrival : Type 0} (events : List (SessionEvent Arrival)) (answers : List Answer) → List LogLine
session_log (event ∷ events) (answer ∷ answers) = answer_log_lines event answer ++ session_log events answers
session_log events answers = []

-- whether two roles are equal
abbrev pub is_same_role : (role other_role : Role) → Bool
is_same_role Mobile Mobile = true
is_same_role Network Network = true
is_same_role r r' = false

-- whether two SAPIs are equal
abbrev pub is_same_sapi : (sapi other_sapi : Sapi) → Bool
is_same_sapi s s' = nat_eq (sapi_number s') (sapi_number s)

-- the call in this log line if it is a call to the endpoint with this role and SAPI, otherwise `None`
abbrev pub call_in_line : Role → Sapi → LogLine → Option Call
call_in_line r s (Asked role sapi call) = if is_same_role r role && is_same_sapi s sapi then Some call else None
call_in_line r s other = None

-- the notice in this log line if the endpoint with this role and SAPI reported it, otherwise `None`
abbrev pub notice_in_line : Role → Sapi → LogLine → Option Notice
notice_in_line r s (Notified role sapi notice) = if is_same_role r role && is_same_sapi s sapi then Some notice else None
notice_in_line r s other = None

-- all calls in the log to the endpoint with this role and SAPI, in order
abbrev pub calls_in_log : (role : Role) (sapi : Sapi) (log : List LogLine) → List Call
calls_in_log r s ls = filter_map (call_in_line r s) ls

-- all notices in the log from the endpoint with this role and SAPI, in order
abbrev pub notices_in_log : (role : Role) (sapi : Sapi) (log : List LogLine) → List Notice
notices_in_log r s ls = filter_map (notice_in_line r s) ls

-- the message that a call sends in I frames, or `None` for any other call
abbrev pub message_sent_by_call : Call → Option Message
message_sent_by_call (Sends m) = Some m
message_sent_by_call other = None

-- the message that a call sends in a UI frame, or `None` for any other call
abbrev pub ui_message_of_call : Call → Option Message
ui_message_of_call (SendsUi m) = Some m
ui_message_of_call other = None

-- the message from a UI frame that a notice delivers, or `None` for any other notice
abbrev pub ui_message_in_notice : Notice → Option Message
ui_message_in_notice (N.Unit m) = Some m
ui_message_in_notice other = None

-- the number of the message that a notice reports as acknowledged, or `None` for any other notice
abbrev pub acked_number_in_notice : Notice → Option ℕ
acked_number_in_notice (N.Acked n) = Some n
acked_number_in_notice other = None

-- the information in a notice that reports the establishment of the link, or `None` for any other notice
abbrev pub establishment_info_in_notice : Notice → Option Message
establishment_info_in_notice (N.Opened info) = Some info
establishment_info_in_notice other = None

-- the notice itself if it reports that the link is closed, otherwise `None`
abbrev pub close_notice_or_none : Notice → Option Notice
close_notice_or_none (N.Closed reason) = Some (N.Closed reason)
close_notice_or_none other = None

-- whether the log line belongs to the link with this SAPI; the SABM of another mobile belongs to SAPI 0
abbrev pub is_log_line_of_sapi : Sapi → LogLine → Bool
is_log_line_of_sapi s (Asked role sapi call) = is_same_sapi s sapi
is_log_line_of_sapi s (RivalSabm info) = is_same_sapi s Zero
is_log_line_of_sapi s (Notified role sapi notice) = is_same_sapi s sapi

-- the log lines that belong to the link with this SAPI
abbrev pub log_lines_of_sapi : (sapi : Sapi) (log : List LogLine) → List LogLine
log_lines_of_sapi s ls = filter_map (λ l. if is_log_line_of_sapi s l then Some l else None) ls

-- the messages that layer 3 sends in I frames at the endpoint with this role and SAPI, in order
abbrev pub sent_messages : (role : Role) (sapi : Sapi) (log : List LogLine) → List Message
sent_messages r s ls = filter_map message_sent_by_call (calls_in_log r s ls)

-- the messages from I frames that the endpoint with this role and SAPI delivers to layer 3, in order
abbrev pub delivered_messages : (role : Role) (sapi : Sapi) (log : List LogLine) → List Message
delivered_messages r s ls = filter_map message_in_got_notice (notices_in_log r s ls)

-- the messages that layer 3 sends in UI frames at the endpoint with this role and SAPI, in order
abbrev pub ui_messages_sent : (role : Role) (sapi : Sapi) (log : List LogLine) → List Message
ui_messages_sent r s ls = filter_map ui_message_of_call (calls_in_log r s ls)

-- the messages from UI frames that the endpoint with this role and SAPI delivers to layer 3, in order
abbrev pub ui_messages_delivered : (role : Role) (sapi : Sapi) (log : List LogLine) → List Message
ui_messages_delivered r s ls = filter_map ui_message_in_notice (notices_in_log r s ls)

-- the numbers of the messages that the endpoint with this role and SAPI reports as acknowledged, in order
abbrev pub acked_message_numbers : (role : Role) (sapi : Sapi) (log : List LogLine) → List ℕ
acked_message_numbers r s ls = filter_map acked_number_in_notice (notices_in_log r s ls)

-- the information in each notice in which the endpoint with this role and SAPI reports that its link is established, in order
abbrev pub establishment_infos : (role : Role) (sapi : Sapi) (log : List LogLine) → List Message
establishment_infos r s ls = filter_map establishment_info_in_notice (notices_in_log r s ls)

-- the notices in which the endpoint with this role and SAPI reports that its link is closed, in order
abbrev pub close_notices : (role : Role) (sapi : Sapi) (log : List LogLine) → List Notice
close_notices r s ls = filter_map close_notice_or_none (notices_in_log r s ls)

-- the first list is a prefix of the second
abbrev pub IsPrefix : {T : Type 0} (front whole : List T) → Type 0
IsPrefix {T} xs ys = (more : List T) × (xs ++ more ≡ ys)

-- the first list is a subsequence of the second: it is the second list, perhaps without some of its elements
abbrev pub IsSubsequence : (xs ys : List Message) → Type 0
IsSubsequence xs [] = xs ≡ []
IsSubsequence [] (y ∷ ys) = Unit {0}
IsSubsequence (x ∷ xs) (y ∷ ys) = ((x ≡ y) × IsSubsequence xs ys) ⊎ IsSubsequence (x ∷ xs) ys

-- the log begins with the lines `before`, and the next line is `line`
abbrev pub OccursAfter : (before : List LogLine) (line : LogLine) (log : List LogLine) → Type 0
OccursAfter before line ls = (more : List LogLine) × (before ++ line ∷ more ≡ ls)

-- what the log must contain before an endpoint reports that its link is established. On the mobile, SAPI 0: its own call and the network's
-- report of the same establishment (section 5.4.1.4). On the network, SAPI 0: the mobile's call or the SABM of another mobile. On SAPI 3:
-- the peer's call, or the endpoint's own call and the peer's report.
abbrev pub HasEstablishmentTrigger : (role : Role) (sapi : Sapi) (info : Message) (before : List LogLine) → Type 0
HasEstablishmentTrigger Mobile Zero info before = Contains before (Notified Network Zero (N.Opened info))
    × Contains before (Asked Mobile Zero (Opens info))
HasEstablishmentTrigger Network Zero info before = Contains before (Asked Mobile Zero (Opens info)) ⊎ Contains before (RivalSabm info)
HasEstablishmentTrigger r Three info before =
    Contains before (Asked (other r) Three OpensWithoutInfo) ⊎ (Contains before (Asked r Three OpensWithoutInfo)
    × Contains before (Notified (other r) Three (N.Opened [])))

-- The claims about delivery, for sessions in which frames may be lost, but not damaged or reordered. For each endpoint, its peer delivers a
-- prefix of the messages sent; acknowledgements are numbered 1, 2, ... (up to 2^64 - 1), and each message is delivered before it is
-- acknowledged; the UI messages that arrive are a subsequence of those sent; the link is established at most once, and only in response to
-- a call or SABM; and no message is oversize.
pub record Claims (log : List LogLine) : Type 0 where
  pub in_order : (role : Role) (sapi : Sapi) → IsPrefix (delivered_messages (other role) sapi log) (sent_messages role sapi log)
  pub acked_in_order : (role : Role) (sapi : Sapi) (n : ℕ) (before : List LogLine) →
      OccursAfter before (Notified role sapi (N.Acked n)) log
      →
      (n ≡ capped_at_64_bits (length (acked_message_numbers role sapi before) + 1))
      × (length (acked_message_numbers role sapi before) + 1 ≤ length (delivered_messages (other role) sapi before))
  pub ui_in_order : (role : Role) (sapi : Sapi) → IsSubsequence (ui_messages_delivered (other role) sapi log)
      (ui_messages_sent role sapi log)
  pub establishment_trigger : (role : Role) (sapi : Sapi) (info : Message) (before : List LogLine) →
      OccursAfter before (Notified role sapi (N.Opened info)) log →
      HasEstablishmentTrigger role sapi info before
  pub established_once : (role : Role) (sapi : Sapi) → length (establishment_infos role sapi log) ≤ 1
  pub no_oversize : (role : Role) (sapi : Sapi) (before : List LogLine) → ¬ OccursAfter before (Notified role sapi N.Oversize) log

-- only an endpoint in state Open can report this notice: the delivery of a message from I frames, an acknowledgement, or an oversize
-- message
abbrev pub NeedsOpenLink : Notice → Type 0
NeedsOpenLink (N.Got m) = Unit {0}
NeedsOpenLink (N.Acked n) = Unit {0}
NeedsOpenLink N.Oversize = Unit {0}
NeedsOpenLink other = ⊥

-- in the log `before`, this endpoint reports exactly once that its link is established, and never that it is closed, and layer 3 never asks
-- it to release the link
pub record IsOpenEndpoint (role : Role) (sapi : Sapi) (before : List LogLine) : Type 0 where
  pub opened_once : length (establishment_infos role sapi before) ≡ 1
  pub not_closed : (reason : Reason) → ¬ Contains before (Notified role sapi (N.Closed reason))
  pub release_not_requested : ¬ Contains before (Asked role sapi Closes)

-- The claims about order, for all sessions, whatever frames arrive. For each endpoint, acknowledgements are numbered 1, 2, ... (up to 2^64
-- - 1), and each message is sent before it is acknowledged; the link is established at most once and closed at most once; and deliveries,
-- acknowledgements and oversize messages are reported only while the link is open.
pub record HasNoticesInOrder (log : List LogLine) : Type 0 where
  pub acked_in_order : (role : Role) (sapi : Sapi) (n : ℕ) (before : List LogLine) →
      OccursAfter before (Notified role sapi (N.Acked n)) log
      →
      (n ≡ capped_at_64_bits (length (acked_message_numbers role sapi before) + 1))
      × (length (acked_message_numbers role sapi before) + 1 ≤ length (sent_messages role sapi before))
  pub established_once : (role : Role) (sapi : Sapi) → length (establishment_infos role sapi log) ≤ 1
  pub closed_once : (role : Role) (sapi : Sapi) → length (close_notices role sapi log) ≤ 1
  pub only_while_open : (role : Role) (sapi : Sapi) (notice : Notice) (before : List LogLine) → NeedsOpenLink notice →
      OccursAfter before (Notified role sapi notice) log →
      IsOpenEndpoint role sapi before

-- no endpoint reports more messages as acknowledged than its peer has delivered
abbrev pub AckedAtMostDelivered : List LogLine → Type 0
AckedAtMostDelivered ls = (r : Role) (s : Sapi) → length (acked_message_numbers r s ls) ≤ length (delivered_messages (other r) s ls)
