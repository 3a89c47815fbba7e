-- The reports that are computed are those of reception.
use Rattle.{
  std.{proofs.Common.{List, length, ℤ, ◌≡◌}, specs.List.All},
  um_block.{proofs.ReceivedBursts.{received_block-only, some_received_block}, specs.{Computed.received_block, Received.IsReceivedBlock}},
}

pub block_computed : (bursts : List (List ℤ)) → length bursts ≡ 4 → All (λ burst. length burst ≡ 148) bursts →
    IsReceivedBlock bursts (received_block bursts)
block_computed bursts four each =
    let received = some_received_block bursts four each in
    rw (← received_block-only bursts received.0 received.1) received.1
