use Rattle.{
  std.proofs.Common.{arith, drop, refl},
  bit_blocks.{proofs.Lemmas.same_remainder, specs.Octets.octet_bits},
  fire_code.{proofs.Lemmas.octet_bits-low_bits, specs.Words.fire_generator},
}
use Rattle.fire_code.proofs.octets.octet_remainder.Goals as goal

pub returns-clause-multiple : goal.returns-clause-multiple
returns-clause-multiple c = record {
  leading_one = refl;
  fits = omega arith;
  quotient = rw (← octet_bits-low_bits c.args.octet, ← c.bits_of.ensures.value) at c.table_remainder.ensures.multiple;
}

pub returns-clause-only : goal.returns-clause-only
returns-clause-only c r count bits multiple =
    same_remainder (octet_bits c.args.octet) r _ (drop 1 fire_generator) bits c.bits_of.ensures.bits count c.bits_of.ensures.count
    multiple.quotient (returns-clause-multiple c).quotient
