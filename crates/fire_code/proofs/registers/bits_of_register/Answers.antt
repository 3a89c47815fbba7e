use Rattle.{
  std.proofs.{Common.{◌+◌, ◌/◌, ◌^◌, arith, bit_and, length-set, refl, take_all}, lemmas.{List.take_more_set, Nat.and_mask}},
  fire_code.{specs.Registers.low_bits, proofs.Lemmas.{AllBits-low_bits, register_bits_split}},
}
use Rattle.fire_code.proofs.registers.bits_of_register.Goals as goal

pub loop-i-init : goal.loop-i-init
unfolding low_bits
loop-i-init g c = (c.zero-bits.ensures.count, refl)

pub loop-i-preserved : goal.loop-i-preserved
unfolding low_bits
loop-i-preserved g c =
    let i = c.loop-i.i in
    let rest = c.args.register / 2 ^ i in
    rw c.set.ensures (
      rw length-set c.loop-i.invariant.0,
      cc (
        take_more_set c.loop-i.bits i (bit_and rest 1) (omega arith),
        c.loop-i.invariant.1,
        and_mask rest 1,
        register_bits_split i 1 (i + 1) c.args.register refl,
      ),
    )

pub returns-clause-bits : goal.returns-clause-bits
returns-clause-bits g c =
    rw (← take_all c.loop-i.i c.loop-i.bits (omega arith), c.loop-i.invariant.1) (AllBits-low_bits _ c.args.register)
