use Rattle.{
  std.proofs.Common.{◌++◌, replicate, refl, ap₂, sym, subst, ◌∙◌, arith, lit<},
  um_lines.{specs.bit_blocks.Bits.AllBits, proofs.bit_blocks.Lemmas.AllBits-append},
  um_repair.proofs.Lemmas.written_word,
}
use Rattle.um_repair.proofs.parsing.word_of_data_and_crc.Goals as goal

pub from_array-requires : goal.from_array-requires
from_array-requires c =
    let front = c.from_octets.new.out in
    let back = c.from_octets-2.new.out in
    let whole = written_word front back (replicate 40 0) (omega (arith, c.from_octets.auto.out)) refl in
    (lit< tt, (lit< tt, subst AllBits (sym whole) (AllBits-append front back c.from_octets.ensures.bits c.from_octets-2.ensures.bits)))

pub returns : goal.returns
returns c =
    let front = c.from_octets.new.out in
    let back = c.from_octets-2.new.out in
    c.from_array.ensures.value
    ∙ written_word front back (replicate 40 0) (omega (arith, c.from_octets.auto.out)) refl
    ∙ ap₂ (λ x y. x ++ y) c.from_octets.ensures.value c.from_octets-2.ensures.value
