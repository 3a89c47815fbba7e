-- A session together with the counters of the radio that encodes and decodes its blocks.
use Rattle.std.specs.Prelude.{ℕ, List, None}
use Rattle.std.specs.List.{sum_by}
use Rattle.um_link.specs.um_air.Air.{Answer}
use Rattle.um_link.specs.um_air.Counts.{sent_frame_count, blocks_received_in_step}
use Rattle.um_driver.specs.Rules.{Rules, answer_to_meaning}
use Rattle.um_link_command.specs.Sessions.{LinkSession, link_command_rules}

-- the number of frames that these answers report as sent
abbrev pub total_frames_sent : (answers : List Answer) → ℕ
total_frames_sent answers = sum_by sent_frame_count answers

-- the number of blocks that these answers report as received
abbrev pub total_blocks_received : (answers : List Answer) → ℕ
total_blocks_received answers = sum_by blocks_received_in_step answers

-- the counters of a radio: the number of blocks sent and the number received
pub record RadioCounters : Type 0 where
  pub sent_blocks : ℕ
  pub received_blocks : ℕ

-- a session, and the radio's counters before the first line of the script
pub record SessionWithRadioCounters : Type 0 where
  pub session : LinkSession
  pub initial_counters : RadioCounters

-- the rules of the `link` command, with states that also contain the radio's counters before the first line
abbrev pub link_rules_with_radio_counters : Rules SessionWithRadioCounters
link_rules_with_radio_counters = record {
  step = λ c line. answer_to_meaning (λ next. (next.0, record c { session = next.1 })) (link_command_rules.step c.session line);
  end_fault = λ c. None;
}
