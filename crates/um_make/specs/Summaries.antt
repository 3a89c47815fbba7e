-- The counters of a session, computed from its events and their answers (this project's own rule).
use Rattle.std.specs.Prelude.{Bool, true, false, not, List, length, sum, count_by, Option, Some, None, is_some}
use Rattle.std.specs.List.{sum_by}
use Rattle.um_link.specs.lapdm_window.declared.Sapi.TheVariants.{Zero}
use Rattle.um_link.specs.lapdm_window.Ends.{Role, Mobile, Network}
use Rattle.um_link.specs.um_block.declared.received.Received.{Received}
use Rattle.um_link.specs.lapdm_link.Claims.{LogLine, delivered_messages, acked_message_numbers}
use Rattle.um_link.specs.lapdm_link.Events.{Lose}
use Rattle.um_link.specs.um_air.Air.{Event, Answer, Refuses, Accepts}
use Rattle.um_link.specs.um_air.Counts.{sent_frame_count}
use Rattle.um_link.specs.um_air.Sessions.{session_log}
use Rattle.um_make.specs.declared.end_summary.EndpointSummary.{EndpointSummary}
use Rattle.um_make.specs.declared.summary.Summary.{Summary}

-- whether a block was received with a good CRC
abbrev pub crc_passes : Option Received → Bool
crc_passes None = false
crc_passes (Some r) = is_some r.accepted

-- whether a block was received with a bad CRC
abbrev pub crc_fails : Option Received → Bool
crc_fails None = false
crc_fails (Some r) = not (is_some r.accepted)

-- whether an answer reports a block received with a good CRC
abbrev pub reports_good_crc : Answer → Bool
reports_good_crc (Refuses why) = false
reports_good_crc (Accepts step) = crc_passes step.received

-- whether an answer reports a block received with a bad CRC
abbrev pub reports_bad_crc : Answer → Bool
reports_bad_crc (Refuses why) = false
reports_bad_crc (Accepts step) = crc_fails step.received

-- whether the event is the loss of a block
abbrev pub is_loss_event : Event → Bool
is_loss_event (Lose sender) = true
is_loss_event event = false

-- the counters of this side on SAPI 0: messages delivered, octets in these messages, the sum of these octets, and messages acknowledged
abbrev pub endpoint_summary : (side : Role) (log_lines : List LogLine) → EndpointSummary
endpoint_summary side log = record {
  messages_got = length (delivered_messages side Zero log);
  octets = sum_by (λ m. length m) (delivered_messages side Zero log);
  octet_sum = sum_by (λ m. sum m) (delivered_messages side Zero log);
  acked_messages = length (acked_message_numbers side Zero log);
}

-- the counters of a session with these events and answers
abbrev pub session_summary : (events : List Event) (answers : List Answer) → Summary
session_summary events answers = record {
  steps = length events;
  sent_blocks = sum_by sent_frame_count answers;
  good_blocks = count_by reports_good_crc answers;
  bad_blocks = count_by reports_bad_crc answers;
  lost_blocks = count_by is_loss_event events;
  mobile = endpoint_summary Mobile (session_log events answers);
  network = endpoint_summary Network (session_log events answers);
}
