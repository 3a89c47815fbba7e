use Rattle.{
  std.proofs.{Common.arith, lemmas.List.Elements.All-replicate},
  um_block.specs.bit_blocks.SoftValues.AllSoftBits,
  um_formats.proofs.BurstLines.lost,
}
use Rattle.um_formats.proofs.held.HeldBursts.new.Goals as goal

pub invariant_of-result : goal.invariant_of-result
invariant_of-result c = (omega arith, All-replicate AllSoftBits 4 _ lost.1)
