-- Lightly damaged bursts, which are always decoded correctly (this project's own rule).
use Rattle.std.specs.Prelude.{◌≡◌, ℕ, ℤ, All, List, length, map}
use Rattle.um_block.specs.interleave.Bursts.{IsInterleaved}
use Rattle.um_block.specs.weight_bound.Restoring.{IsCorrectable}
use Rattle.um_block.specs.Sent.{IsCodedBlock}
use Rattle.um_block.specs.Received.{coded_soft_bits}

-- four bursts of 148 soft values that carry the block `octets`: at most three of the 456 coded soft values have the wrong sign, and four
-- times the smallest magnitude of the 456 exceeds three times the largest
pub record AreCorrectableBursts (octets : List ℕ) (bursts : List (List ℤ)) : Type 0 where
  pub bits : List ℕ
  pub coded : IsCodedBlock octets bits
  pub four_bursts : length bursts ≡ 4
  pub whole_bursts : All (λ burst. length burst ≡ 148) bursts
  pub soft : List ℤ
  pub deinterleaved : IsInterleaved soft (map coded_soft_bits bursts)
  pub correctable : IsCorrectable soft bits
