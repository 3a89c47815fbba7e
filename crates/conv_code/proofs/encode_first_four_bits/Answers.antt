use Rattle.{
  std.proofs.{Common.{◌∙◌, arith}, lemmas.List.length-set},
  conv_code.proofs.Lemmas.{delayed_bit-at_most_1, bit_at-most_1, first_by_xor, second_by_xor, coded_more},
}
use Rattle.conv_code.proofs.encode_first_four_bits.Goals as goal

pub loop-k-preserved : goal.loop-k-preserved
loop-k-preserved c =
    let u = c.args.u.now in
    let k = c.loop-k.k in
    let bits = c.requires.information.bits in
    let x = bit_at-most_1 u k bits in
    let three = delayed_bit-at_most_1 u k 3 bits in
    let four = delayed_bit-at_most_1 u k 4 bits in (
      length-set _ _ _ ∙ length-set _ _ _ ∙ c.loop-k.invariant.0,
      rw (c.delayed_bit.ensures, c.delayed_bit-in-loop-k.ensures, c.delayed_bit-in-loop-k-2.ensures)
          (coded_more u c.loop-k.out k _ _ (omega arith) c.loop-k.invariant.1 (first_by_xor _ _ _ x three four)
          (second_by_xor _ _ _ _ x (delayed_bit-at_most_1 u k 1 bits) three four)),
    )
