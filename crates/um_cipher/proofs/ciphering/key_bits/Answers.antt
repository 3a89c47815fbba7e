use Rattle.std.proofs.Common.{subst, sym, ◌≡◌}
use Rattle.bit_blocks.specs.Bits.{AllBits}
use Rattle.um_cipher.specs.Ciphers.{key_bits}
use Rattle.um_cipher.proofs.Lemmas.{key_is_bits, placed_key}
use Rattle.um_cipher.proofs.ciphering.key_bits.Goals as goal

pub returns-clause-value : goal.returns-clause-value
returns-clause-value c = placed_key c.args.stream.now c.place.new.key c.place-2.new.key c.told-stream c.place.ensures c.place-2.ensures

pub returns-clause-bits : goal.returns-clause-bits
returns-clause-bits c =
    let value : c.place-2.new.key ≡ key_bits c.args.stream.now = returns-clause-value c in
    subst AllBits (sym value) (key_is_bits c.args.stream.now c.requires.stream)
