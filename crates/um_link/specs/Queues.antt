-- The queue of blocks that travel in one direction.
use Rattle.std.specs.Prelude.{◌≡◌, ℕ, ◌<◌, All, List, ◌∷◌, map}
use Rattle.um_block.specs.bit_blocks.Bits.{AllBits}
use Rattle.circular_buffer.specs.Buffer.{Buffer}
use Rattle.um_block.specs.declared.received.Received.{Received}
use Rattle.um_block.specs.Received.{IsReceivedBlock, soft_bits}
use Rattle.um_air.specs.Air.{Block, with_bits_inverted}

-- each number is the index of a bit in the four bursts of a block, 0 to 591
abbrev pub AreBitIndices : List ℕ → Type 0
AreBitIndices places = All (λ place. place < 592) places

-- the queue has room for 64 blocks, and every block in it consists of bits
pub record IsValidQueue (way : Buffer Block) : Type 0 where
  pub capacity : way.capacity ≡ 64
  pub bits : All (All AllBits) way.items

-- the oldest block is removed from the queue `old`, which becomes `new`, and is received with the bits at `places` inverted; `report`
-- describes the result
pub record ReceivesOldestBlock (places : List ℕ) (old : List Block) (report : Received) (new : List Block) : Type 0 where
  pub block : Block
  pub queue_front : old ≡ block ∷ new
  pub received : IsReceivedBlock (map soft_bits (with_bits_inverted places block)) report
