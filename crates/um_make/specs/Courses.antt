-- How far a generated session has proceeded (internal).
use Rattle.std.specs.Prelude.{◌≢◌, ◌≤◌, ◌+◌, ◌*◌, ◌%◌, List, [], ◌∷◌, ◌++◌}
use Rattle.um_link.specs.lapdm_window.declared.Sapi.TheVariants.{Zero}
use Rattle.um_link.specs.lapdm_window.Ends.{Role, Mobile, Network}
use Rattle.um_link.specs.lapdm_link.Events.{Ask, Deliver, T200Expiry, other}
use Rattle.um_link.specs.um_air.Air.{Event}
use Rattle.um_make.specs.declared.course.SessionStage.{SessionStage}
use Rattle.um_make.specs.declared.course.SessionStage.TheVariants.{Opening, SabmInTransit, UaInTransit, SendNext, SegmentReplyInTransit}
use Rattle.um_make.specs.declared.course.SessionStage.TheVariants.{SegmentLost}
use Rattle.um_make.specs.declared.course.SessionProgress.{SessionProgress}
use Rattle.um_make.specs.Generated.{sender, establishment_events, events_after_transmission}

-- the remaining events of the link establishment, or of the current transmission from this side
abbrev pub pending_events : SessionStage → Role → List Event
pending_events Opening r = establishment_events
pending_events SabmInTransit r = Deliver Mobile [] ∷ Deliver Network [] ∷ []
pending_events UaInTransit r = Deliver Network [] ∷ []
pending_events SendNext r = []
pending_events SegmentReplyInTransit r = Deliver (other r) [] ∷ []
pending_events SegmentLost r = Ask r Zero T200Expiry ∷ []

-- all events that remain of a generated session
abbrev pub remaining_events : SessionProgress → List Event
remaining_events s = pending_events s.stage (sender s.message_number) ++ events_after_transmission s.messages_left s.message_number
    s.segments_left
    s.segment_transmissions

-- the progress respects the bounds of a session: at most 1000 messages, at most 13 segments per message, and at most two transmissions per
-- segment
pub record HasBoundedTransmissions (progress : SessionProgress) : Type 0 where
  pub messages : progress.message_number + progress.messages_left ≤ 1000
  pub segment_transmissions : progress.segment_transmissions + 2 * progress.segments_left + 26 * progress.messages_left ≤ 26001
  pub bound_if_segment_not_lost : progress.segment_transmissions % 8 ≢ 0 →
      progress.segment_transmissions + 2 * progress.segments_left + 26 * progress.messages_left ≤ 26000
