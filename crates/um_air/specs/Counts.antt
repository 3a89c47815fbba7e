-- The blocks that the answer to an event reports, as a radio counts them (this project's own rule).
use Rattle.std.specs.Prelude.{ℕ, length, Option, Some, None}
use Rattle.um_block.specs.declared.received.Received.{Received}
use Rattle.um_air.specs.Air.{Answer, Refuses, Accepts}

-- the number of frames that an answer reports as sent, each in one block
abbrev pub sent_frame_count : Answer → ℕ
sent_frame_count (Refuses why) = 0
sent_frame_count (Accepts step) = length step.frames

-- 1 if a block was received, otherwise 0
abbrev pub arrival_count : Option Received → ℕ
arrival_count None = 0
arrival_count (Some report) = 1

-- the number of blocks that an answer reports as received, 0 or 1
abbrev pub blocks_received_in_step : Answer → ℕ
blocks_received_in_step (Refuses why) = 0
blocks_received_in_step (Accepts step) = arrival_count step.received
