use Rattle.{
  std.proofs.{Common.{arith, subst, sym, take, ◌∙◌}, lemmas.List.take_all},
  um_block.specs.bit_blocks.SoftValues.AllSoftBits,
  um_formats.proofs.BurstLines.hard_values,
}
use Rattle.um_formats.proofs.soft_digits.write_soft_values_of_bit_digits.Goals as goal

pub returns-clause-soft : goal.returns-clause-soft
returns-clause-soft g c =
    subst AllSoftBits (sym c.loop-i.invariant.0 ∙ take_all c.loop-i.i c.loop-i.values
    (omega (arith, c.loop-i.invariant.1, c.loop-i-test.false))) (hard_values (take c.loop-i.i c.args.digits.now))
