use Rattle.fire_code.proofs.Lemmas.{inverted_register}
use Rattle.fire_code.proofs.division.crc.Goals as goal

pub returns-clause-multiple : goal.returns-clause-multiple
returns-clause-multiple g c =
    rw (c.bits_of_register.ensures.value, inverted_register g.row.N c.remainder.result c.requires.fits c.remainder.type_inv)
    c.remainder.ensures.multiple
