use Rattle.std.proofs.Common.{pos, rules}
use Rattle.um_block.specs.bit_blocks.SoftValues.{AllSoftBits, IsSoftBit}
use Rattle.std.proofs.lemmas.List.Elements.{All-replicate, All-set}
use Rattle.um_erasing.proofs.blocks.without_burst.Goals as goal

pub returns-clause-soft : goal.returns-clause-soft
returns-clause-soft c = All-set AllSoftBits _ _ _ (All-replicate IsSoftBit 148 (pos 0) (search rules)) c.requires.soft
