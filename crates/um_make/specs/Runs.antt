-- The answers to the events of a generated session, and their summary (this project's own rule).
use Rattle.std.specs.Prelude.{◌≡◌, ◌≤◌, ℕ, List, [], ◌∷◌}
use Rattle.um_link.specs.lapdm_frame.declared.Channel.TheVariants.{Sdcch}
use Rattle.um_link.specs.um_air.Air.{Event, Answer, AirState, initial_session, IsAirRun}
use Rattle.um_link.specs.um_air.Computed.{air_step}
use Rattle.um_make.specs.declared.summary.Summary.{Summary}
use Rattle.um_make.specs.Generated.{generated_events}
use Rattle.um_make.specs.Summaries.{session_summary}

-- the answers to these events, one after the other
abbrev pub answers_to : (state : AirState) (events : List Event) → List Answer
answers_to a [] = []
answers_to a (event ∷ events) = (air_step a event).1 ∷ answers_to (air_step a event).0 events

-- the answers in the generated session with this number of messages, which starts with idle endpoints on SDCCH
unfoldable pub generated_answers : (tsc message_count : ℕ) → List Answer
generated_answers tsc n = answers_to (initial_session tsc Sdcch) (generated_events n)

abbrev pub generated_summary : (tsc message_count : ℕ) → Summary
generated_summary tsc n = session_summary (generated_events n) (generated_answers tsc n)

-- the generated session is a session over blocks, which its events determine
pub record IsGeneratedSession (tsc message_count : ℕ) : Type 0 where
  pub last_state : AirState
  pub run : IsAirRun (initial_session tsc Sdcch) (generated_events message_count) (generated_answers tsc message_count) last_state
  pub only : (answers : List Answer) (last : AirState) →
      IsAirRun (initial_session tsc Sdcch) (generated_events message_count) answers last → answers ≡ generated_answers tsc message_count

-- neither side has more messages acknowledged than the other side has delivered
pub record AckedAtMostReceived (summary : Summary) : Type 0 where
  pub mobile : summary.mobile.acked_messages ≤ summary.network.messages_got
  pub network : summary.network.acked_messages ≤ summary.mobile.messages_got
