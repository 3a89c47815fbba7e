use Rattle.{
  std.proofs.Common.{◌≡◌, ◌+◌, ◌*◌, ◌/◌, ◌^◌, ◌∙◌, ◌++◌, append_assoc, arith, drop, length-append},
  std.proofs.Common.{length-drop, refl, take_all, take_at},
  fire_code.{specs.Registers.low_bits, proofs.Lemmas.{AllBits-low_bits, length-low_bits, lowest_octet, register_bits_split}},
}
use Rattle.fire_code.proofs.registers.bits_of.Goals as goal

pub loop-m-init : goal.loop-m-init
unfolding low_bits
loop-m-init c = (c.zero-bits.ensures.count, refl)

pub loop-m-preserved : goal.loop-m-preserved
loop-m-preserved c =
    let register = c.args.register in
    let bits = c.loop-m.bits in
    let k = 8 * c.loop-m.m in
    let n = 8 * (c.loop-m.m + 1) in
    let is : _ ≡ low_bits n register ++ drop (k + 8) bits =
    c.write_octet_bits.ensures
    ∙ cc (
      c.loop-m.invariant.1,
      c.unpack_octet.ensures.value,
      lowest_octet (register / 2 ^ k),
      register_bits_split k 8 n register (omega arith),
      append_assoc (low_bits k register) (low_bits 8 (register / 2 ^ k)) (drop (k + 8) bits),
    ) in
    rw is (
      simp (length-append, length-low_bits, length-drop, c.loop-m.invariant.0) (omega arith),
      take_at _ _ n (length-low_bits n register),
    )

pub returns-clause-bits : goal.returns-clause-bits
returns-clause-bits c =
    rw (← take_all (8 * c.loop-m.m) c.loop-m.bits (omega arith), c.loop-m.invariant.1) (AllBits-low_bits _ c.args.register)
