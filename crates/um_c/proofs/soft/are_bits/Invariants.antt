use Rattle.{std.{proofs.Common.take, specs.Prelude.{IsTrue, ◌↔◌}}, um_block.specs.bit_blocks.Bits.AllBits}
use Rattle.um_c.proofs.soft.are_bits.Given as goal

abbrev pub invariant-loop-value : goal.invariant-loop-value
invariant-loop-value l = IsTrue l.are ↔ AllBits (take l.value-index l.values)
