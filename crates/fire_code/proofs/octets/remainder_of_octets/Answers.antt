use Rattle.{
  std.proofs.{Common.{[], ◌∷◌, arith, get_or, take, take_all}, lemmas.{Grind.flat_map-append, List.take_more}},
  bit_blocks.{proofs.Lemmas.AllBits-bits_of, specs.Octets.octet_bits},
  fire_code.proofs.Lemmas.{empty_register, octet_bits-low_bits, octet_more},
}
use Rattle.fire_code.proofs.octets.remainder_of_octets.Goals as goal

pub loop-octet-init : goal.loop-octet-init
loop-octet-init c = empty_register

pub loop-octet-preserved : goal.loop-octet-preserved
loop-octet-preserved c =
    let octets = c.args.octets.now in
    let i = c.loop-octet.octet-index in
    let octet = get_or octets i 0 in
    octet_more _ _ _ octet _ (AllBits-bits_of (take i octets))
    (cc (take_more octets i 0 (omega arith), flat_map-append octet_bits (take i octets) (octet ∷ []), octet_bits-low_bits octet))
    c.loop-octet.invariant (rw (← c.from.ensures) c.table_remainder.ensures.multiple, c.table_remainder.ensures.within)

pub returns-clause-multiple : goal.returns-clause-multiple
returns-clause-multiple c = rw (← take_all c.loop-octet.octet-index c.args.octets.now (omega arith)) c.loop-octet.invariant.0
