use Rattle.{
  std.proofs.{Common.{◌≡◌, arith, ◌+◌, ◌-◌, ◌*◌, length, ap, ◌∙◌}, Math.Seq.take-length},
  bit_blocks.{specs.Octets.bits_of, proofs.Lemmas.{octets_of_more, bits_of-octets_of}},
}
use Rattle.bit_blocks.proofs.octets.to_octets.Goals as goal

pub loop-m-preserved : goal.loop-m-preserved
loop-m-preserved c =
    octets_of_more c.loop-m.out c.args.bits.now c.loop-m.m c.octet_of_bits.result (8 * c.loop-m.m + 8 - 8 * c.loop-m.m)
    (omega arith) (omega arith) (omega arith) c.octet_of_bits.ensures c.loop-m.invariant

pub returns-clause-value : goal.returns-clause-value
returns-clause-value c =
    let m : c.loop-m.m ≡ length c.loop-m.out = omega arith in
    let whole : 8 * c.loop-m.m ≡ length c.args.bits.now = omega arith in
    cc (take-length c.loop-m.out, m, c.loop-m.invariant, whole, take-length c.args.bits.now)

pub returns-clause-round_trip : goal.returns-clause-round_trip
returns-clause-round_trip c =
    ap bits_of (returns-clause-value c)
    ∙ bits_of-octets_of c.args.bits.now (length c.args.out.now) c.requires.count c.requires.bits
