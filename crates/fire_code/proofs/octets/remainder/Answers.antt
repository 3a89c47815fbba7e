use Rattle.{
  std.proofs.{Common.{◌≡◌, ◌+◌, ◌-◌, ◌*◌, arith, take-add}, lemmas.List.Elements.All-take},
  bit_blocks.specs.Bits.IsBit,
  fire_code.proofs.Lemmas.{empty_register, octet_more},
}
use Rattle.fire_code.proofs.octets.remainder.Goals as goal

pub loop-m-init : goal.loop-m-init
loop-m-init c = empty_register

pub loop-m-preserved : goal.loop-m-preserved
loop-m-preserved c =
    let bits = c.args.bits.now in
    let k = 8 * c.loop-m.m in
    let next : 8 * (c.loop-m.m + 1) ≡ k + (k + 8 - k) = omega arith in
    octet_more _ _ _ _ _ (All-take IsBit k bits c.requires.bits)
    (cc (next, take-add k (k + 8 - k) bits, c.pack_eight_bits-octet.ensures.value)) c.loop-m.invariant
    (c.table_remainder.ensures.multiple, c.table_remainder.ensures.within)
