use Rattle.{std.proofs.Common.{arith, take_all}, fire_code.proofs.Lemmas.remainder_of}
use Rattle.fire_code.proofs.division.remainder.Goals as goal

pub returns : goal.returns
returns g c =
    rw (c.loop-bit.invariant, take_all c.loop-bit.bit-index c.args.bits.now (omega arith))
    (assumption (remainder_of g.row.N c.args.taps c.requires.degree c.requires.taps c.args.bits.now c.requires.bits))
