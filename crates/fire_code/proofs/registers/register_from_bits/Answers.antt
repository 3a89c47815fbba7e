use Rattle.{std.proofs.Common.{◌+◌, ◌-◌, ◌*◌, arith, refl}, fire_code.{specs.Registers.low_bits, proofs.Lemmas.put_together}}
use Rattle.fire_code.proofs.registers.register_from_bits.Goals as goal

pub loop-m-init : goal.loop-m-init
unfolding low_bits
loop-m-init c = (refl, omega arith)

pub loop-m-preserved : goal.loop-m-preserved
loop-m-preserved c =
    put_together c.args.bits.now c.loop-m.m (8 * c.loop-m.m + 8 - 8 * c.loop-m.m) _ _
    (omega arith) (omega arith) c.pack_eight_bits.ensures.within c.loop-m.invariant.1 c.pack_eight_bits.ensures.value c.loop-m.invariant.0
