-- Operations on the queue of one side that leave everything else unchanged.
use Rattle.std.specs.Prelude.{◌≡◌, ℕ, List, ◌∷◌, Option, Some}
use Rattle.um_air.specs.lapdm_window.Ends.{Role}
use Rattle.um_block.specs.declared.received.Received.{Received}
use Rattle.um_air.specs.lapdm_link.Events.{other}
use Rattle.um_air.specs.Air.{Block, Octets}
use Rattle.um_link.specs.declared.links.WorldState.{WorldState}
use Rattle.um_link.specs.Coded.{AppendsBlocks}
use Rattle.um_link.specs.Abstraction.{queued_blocks}
use Rattle.um_link.specs.Queues.{ReceivesOldestBlock}

-- the two worlds differ only in the queue of this side
pub record DiffersOnlyInQueue (sender : Role) (old new : WorldState) : Type 0 where
  pub other_queue_same : queued_blocks (other sender) new ≡ queued_blocks (other sender) old
  pub tsc : new.tsc ≡ old.tsc
  pub channel : new.channel ≡ old.channel
  pub ends : new.ends ≡ old.ends

-- the coded blocks of these octets are appended to the queue of side `sender`; nothing else changes
pub record AppendsToQueue (sender : Role) (octets : List Octets) (old new : WorldState) : Type 0 where
  pub appends : AppendsBlocks old.tsc octets (queued_blocks sender old) (queued_blocks sender new)
  pub rest_same : DiffersOnlyInQueue sender old new

-- the oldest block that side `sender` sent leaves its queue and is received with the bits at `places` inverted; nothing else changes
pub record ReceivesOldestBlockFrom (sender : Role) (places : List ℕ) (old : WorldState) (arrived : Option Received)
    (new : WorldState) : Type 0
  where
    pub report : Received
    pub arrived_is_report : arrived ≡ Some report
    pub received : ReceivesOldestBlock places (queued_blocks sender old) report (queued_blocks sender new)
    pub rest_same : DiffersOnlyInQueue sender old new

-- the oldest block that side `sender` sent leaves its queue without being received; nothing else changes
pub record LosesOldestBlockFrom (sender : Role) (old new : WorldState) : Type 0 where
  pub block : Block
  pub queue_front : queued_blocks sender old ≡ block ∷ queued_blocks sender new
  pub rest_same : DiffersOnlyInQueue sender old new
