use Rattle.{
  std.proofs.{Common.{◌*◌, arith}, lemmas.List.{append-nil, drop_all, take_all}},
  bit_blocks.{specs.Octets.bits_of, proofs.Lemmas.AllBits-bits_of},
}
use Rattle.bit_blocks.proofs.octets.from_octets.Goals as goal

pub returns-clause-value : goal.returns-clause-value
returns-clause-value c =
    let octets = c.args.octets.now in
    let out = c.loop-m.out in
    cc (
      c.loop-m.invariant,
      take_all c.loop-m.m octets (omega arith),
      drop_all (8 * c.loop-m.m) out (omega arith),
      append-nil (bits_of octets),
    )

pub returns-clause-bits : goal.returns-clause-bits
returns-clause-bits c = rw (returns-clause-value c) (AllBits-bits_of c.args.octets.now)
