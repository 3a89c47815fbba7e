-- Each block received in a session of `link` is decoded to a codeword that is at least as likely as any other, given the soft values
-- received, and is accepted if and only if its CRC holds (this project's own rule).
use Rattle.std.specs.Prelude.{ℕ, ◌≡◌, List, ◌∷◌, map, Option, Some, None, Ok}
use Rattle.um_end.specs.lapdm_frame.declared.Channel.{Channel}
use Rattle.um_end.specs.um_link.lapdm_window.Ends.{Role}
use Rattle.um_end.specs.um_link.lapdm_link.Queues.{queue_of}
use Rattle.um_end.specs.um_link.lapdm_link.Events.{Deliver}
use Rattle.um_end.specs.um_block.Received.{soft_bits}
use Rattle.um_end.specs.um_block.declared.received.Received.{Received}
use Rattle.um_end.specs.um_link.um_air.Air.{Block, AirState, Event, Answer, Refuses, Accepts, with_bits_inverted}
use Rattle.um_end.specs.um_link.um_air.Computed.{air_step}
use Rattle.um_make.specs.um_script.ScriptLines.{script_line}
use Rattle.um_driver.specs.Rules.{Runs}
use Rattle.um_link_command.specs.Sessions.{LinkSession, new_session, link_command_rules}
use Rattle.um_cli.specs.Decoded.{IsMostLikelyWord}

-- `report` is the report on the oldest block of `sender`, received with the bits at `places` inverted and decoded to a most likely word
pub record IsArrivalWithMostLikelyWord (state : AirState) (sender : Role) (places : List ℕ) (report : Received) : Type 0 where
  pub block : Block
  pub later_blocks : List Block
  pub queue_front : queue_of sender state.queues ≡ block ∷ later_blocks
  pub most_likely : IsMostLikelyWord (map soft_bits (with_bits_inverted places block)) report

-- if the event delivers a block, the block is decoded to a most likely word
abbrev pub ReceivesMostLikelyWord : (state : AirState) (event : Event) (received : Option Received) → Type 0
ReceivesMostLikelyWord a (Deliver sender places) (Some r) = IsArrivalWithMostLikelyWord a sender places r
ReceivesMostLikelyWord a event received = Unit {0}

abbrev pub ReportsMostLikelyWord : (state : AirState) (event : Event) (answer : Answer) → Type 0
ReportsMostLikelyWord a event (Refuses why) = Unit {0}
ReportsMostLikelyWord a event (Accepts step) = ReceivesMostLikelyWord a event step.received

-- whatever lines `link` has answered, a block that the event of the next line delivers is decoded to a most likely word
abbrev pub LinkDecodesToMostLikelyWords : (tsc : ℕ) (channel : Channel) → Type 0
LinkDecodesToMostLikelyWords tsc channel = (lines answers : List (List ℕ)) (s : LinkSession) (line : List ℕ) (event : Event) →
    Runs link_command_rules (new_session tsc channel) lines answers s → script_line line ≡ Ok (Some event) →
    ReportsMostLikelyWord s.air event (air_step s.air event).1
