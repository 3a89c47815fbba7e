-- What one event, or one notice, adds to the counters of a session (internal).
use Rattle.std.specs.Prelude.{◌≡◌, ◌≤◌, ℕ, ◌+◌, Bool, ◌&&◌, if◌then◌else◌, List, [], length, sum}
use Rattle.std.specs.List.{sum_by, filter_map}
use Rattle.um_link.specs.lapdm_window.declared.Notice.{Notice}
use Rattle.um_link.specs.lapdm_window.declared.Sapi.{Sapi}
use Rattle.um_link.specs.lapdm_window.declared.Sapi.TheVariants.{Zero}
use Rattle.um_link.specs.lapdm_window.Ends.{Role, Mobile, Network}
use Rattle.um_link.specs.lapdm_link.Events.{Who, BySide}
use Rattle.um_link.specs.lapdm_link.Claims.{message_in_got_notice, acked_number_in_notice, is_same_role, is_same_sapi}
use Rattle.um_link.specs.um_air.Air.{Event, Answer, Refuses, Accepts}
use Rattle.um_link.specs.um_air.Counts.{sent_frame_count}
use Rattle.um_make.specs.declared.end_summary.EndpointSummary.{EndpointSummary}
use Rattle.um_make.specs.declared.summary.Summary.{Summary}
use Rattle.um_make.specs.Summaries.{reports_good_crc, reports_bad_crc, is_loss_event}

-- the messages and acknowledgements in these notices raise the counters from `old` to `new`
pub record CountsNotices (notices : List Notice) (old new : EndpointSummary) : Type 0 where
  pub messages_got : new.messages_got ≡ old.messages_got + length (filter_map message_in_got_notice notices)
  pub octets : new.octets ≡ old.octets + sum_by (λ m. length m) (filter_map message_in_got_notice notices)
  pub octet_sum : new.octet_sum ≡ old.octet_sum + sum_by (λ m. sum m) (filter_map message_in_got_notice notices)
  pub acked_messages : new.acked_messages ≡ old.acked_messages + length (filter_map acked_number_in_notice notices)

-- no counter of this side has grown by more than `limit` from `old` to `new`
pub record EndpointCountersGrowAtMost (limit : ℕ) (old new : EndpointSummary) : Type 0 where
  pub messages_got : new.messages_got ≤ old.messages_got + limit
  pub octets : new.octets ≤ old.octets + limit
  pub octet_sum : new.octet_sum ≤ old.octet_sum + limit
  pub acked_messages : new.acked_messages ≤ old.acked_messages + limit

-- no counter of this side exceeds `limit`
pub record EndpointCountersAreAtMost (limit : ℕ) (e : EndpointSummary) : Type 0 where
  pub messages_got : e.messages_got ≤ limit
  pub octets : e.octets ≤ limit
  pub octet_sum : e.octet_sum ≤ limit
  pub acked_messages : e.acked_messages ≤ limit

abbrev pub one_if_true : Bool → ℕ
one_if_true b = if b then 1 else 0

-- these notices, if the given side reported them on SAPI 0, otherwise none
abbrev pub sapi0_notices_of_side : (role : Role) (who : Who) (sapi : Sapi) (notices : List Notice) → List Notice
sapi0_notices_of_side r (BySide role) sapi notices = if is_same_role r role && is_same_sapi Zero sapi then notices else []
sapi0_notices_of_side r who sapi notices = []

-- the notices that this side reports on SAPI 0 in this answer
abbrev pub sapi0_notices_in_answer : Role → Answer → List Notice
sapi0_notices_in_answer r (Refuses why) = []
sapi0_notices_in_answer r (Accepts step) = sapi0_notices_of_side r step.who step.sapi step.notices

-- the blocks and notices of this answer raise the counters from `old` to `new`; the event itself is not counted
pub record CountsAnswer (answer : Answer) (old new : Summary) : Type 0 where
  pub steps : new.steps ≡ old.steps
  pub sent_blocks : new.sent_blocks ≡ old.sent_blocks + sent_frame_count answer
  pub good_blocks : new.good_blocks ≡ old.good_blocks + one_if_true (reports_good_crc answer)
  pub bad_blocks : new.bad_blocks ≡ old.bad_blocks + one_if_true (reports_bad_crc answer)
  pub lost_blocks : new.lost_blocks ≡ old.lost_blocks
  pub mobile : CountsNotices (sapi0_notices_in_answer Mobile answer) old.mobile new.mobile
  pub network : CountsNotices (sapi0_notices_in_answer Network answer) old.network new.network

-- this event and its answer raise the counters from `old` to `new`
pub record CountsStep (event : Event) (answer : Answer) (old new : Summary) : Type 0 where
  pub steps : new.steps ≡ old.steps + 1
  pub sent_blocks : new.sent_blocks ≡ old.sent_blocks + sent_frame_count answer
  pub good_blocks : new.good_blocks ≡ old.good_blocks + one_if_true (reports_good_crc answer)
  pub bad_blocks : new.bad_blocks ≡ old.bad_blocks + one_if_true (reports_bad_crc answer)
  pub lost_blocks : new.lost_blocks ≡ old.lost_blocks + one_if_true (is_loss_event event)
  pub mobile : CountsNotices (sapi0_notices_in_answer Mobile answer) old.mobile new.mobile
  pub network : CountsNotices (sapi0_notices_in_answer Network answer) old.network new.network

-- no counter of the session has grown by more than `limit` from `old` to `new`
pub record CountersGrowAtMost (limit : ℕ) (old new : Summary) : Type 0 where
  pub steps : new.steps ≤ old.steps + limit
  pub sent_blocks : new.sent_blocks ≤ old.sent_blocks + limit
  pub good_blocks : new.good_blocks ≤ old.good_blocks + limit
  pub bad_blocks : new.bad_blocks ≤ old.bad_blocks + limit
  pub lost_blocks : new.lost_blocks ≤ old.lost_blocks + limit
  pub mobile : EndpointCountersGrowAtMost limit old.mobile new.mobile
  pub network : EndpointCountersGrowAtMost limit old.network new.network

-- no counter of the session exceeds `limit`
pub record CountersAreAtMost (limit : ℕ) (summary : Summary) : Type 0 where
  pub steps : summary.steps ≤ limit
  pub sent_blocks : summary.sent_blocks ≤ limit
  pub good_blocks : summary.good_blocks ≤ limit
  pub bad_blocks : summary.bad_blocks ≤ limit
  pub lost_blocks : summary.lost_blocks ≤ limit
  pub mobile : EndpointCountersAreAtMost limit summary.mobile
  pub network : EndpointCountersAreAtMost limit summary.network
