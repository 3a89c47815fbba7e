-- Octets and their coded blocks.
use Rattle.std.specs.Prelude.{◌≡◌, ℕ, List, [], ◌∷◌, ◌++◌}
use Rattle.um_block.specs.Sent.{IsSentBlock}
use Rattle.um_air.specs.Air.{Octets, Block}

-- `blocks` are the coded forms of these octets, in order, with this training sequence code
abbrev pub AreCodedBlocks : (tsc : ℕ) (frames : List Octets) (blocks : List Block) → Type 0
AreCodedBlocks tsc [] [] = Unit {0}
AreCodedBlocks tsc (o ∷ os) (b ∷ bs) = IsSentBlock o tsc b × AreCodedBlocks tsc os bs
AreCodedBlocks tsc os bs = ⊥

-- appending the coded blocks of these octets to the queue `old` yields `new`
pub record AppendsBlocks (tsc : ℕ) (octets : List Octets) (old new : List Block) : Type 0 where
  pub blocks : List Block
  pub coded : AreCodedBlocks tsc octets blocks
  pub appended : new ≡ old ++ blocks
