-- What the call that says an answer twice returns and writes.
use Rattle.std.specs.Prelude.{◌≡◌, ◌≢◌, ℕ, List, take, Option, Some, None}
use Rattle.std.specs.Prelude.{if◌then◌else◌, nat_eq}
use Rattle.lapdm_frame.specs.declared.Channel.{Channel}
use Rattle.lapdm_repeats.specs.declared.said.Said.{Said}
use Rattle.lapdm_frame.specs.Content.{Frame}
use Rattle.lapdm_frame.specs.Frames.{IsFrameCoding}
use Rattle.lapdm_repeats.specs.Said.{nothing_said, said_after}
use Rattle.um_c.specs.DataLinkCalls.{with_layer1}

-- nothing is written, and the call returns 7
pub record SaysNothing (said_old said : Said) (block_old block : List ℕ) (answer : ℕ) : Type 0 where
  pub said_is : said ≡ said_old
  pub block_is : block ≡ block_old
  pub answer_is : answer ≡ 7

-- a block was sent: it waits if it has an RR with F = 0
pub record KeepsAnswer (channel : Channel) (said : Said) (block_old block : List ℕ) (answer : ℕ) : Type 0 where
  pub said_is : (f : Frame) → IsFrameCoding channel f block_old → said ≡ said_after channel f
  pub no_frame : ((f : Frame) → ¬ IsFrameCoding channel f block_old) → said ≡ nothing_said
  pub block_is : block ≡ block_old
  pub answer_is : answer ≡ 0

-- the slot is free: the block that waits goes into it, with the layer 1 octets of the fill frame, and nothing waits any more
pub record FillsFreeSlot (channel : Channel) (said_old said : Said) (block_old block : List ℕ) (answer : ℕ) : Type 0 where
  pub said_is : said ≡ nothing_said
  pub block_is : block
      ≡ (if nat_eq said_old.waits 0 then block_old else with_layer1 channel (take 2 block_old) said_old.block)
  pub answer_is : answer ≡ (if nat_eq said_old.waits 0 then 10 else 0)

-- what the call does after `um_datalink_next` returned `next`: 0 for a frame, 10 for the fill frame
pub record SaysAgain (channel : Option Channel) (next : ℕ) (said_old said : Said) (block_old block : List ℕ) (answer : ℕ)
    : Type 0 where
  pub frame : (c : Channel) → channel ≡ Some c → next ≡ 0 → KeepsAnswer c said block_old block answer
  pub free : (c : Channel) → channel ≡ Some c → next ≡ 10 → FillsFreeSlot c said_old said block_old block answer
  pub other : (next ≢ 0) × (next ≢ 10) → SaysNothing said_old said block_old block answer
  pub no_channel : channel ≡ None → SaysNothing said_old said block_old block answer
