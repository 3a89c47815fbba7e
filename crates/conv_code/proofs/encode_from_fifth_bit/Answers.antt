use Rattle.{
  std.proofs.{Common.{◌+◌, ◌-◌, ◌%◌, get_or, ap, ap₂, sym, ◌∙◌, arith}, lemmas.List.length-set},
  conv_code.{specs.Code.delayed_bit, proofs.Lemmas.{delayed_bit-late, bit_at-most_1, first_by_xor, second_by_xor, coded_more}},
}
use Rattle.conv_code.proofs.encode_from_fifth_bit.Goals as goal

pub loop-k-preserved : goal.loop-k-preserved
loop-k-preserved c =
    let u = c.args.u.now in
    let k = c.loop-k.k in
    let bits = c.requires.information.bits in
    let x = bit_at-most_1 u k bits in
    let three = bit_at-most_1 u (k - 3) bits in
    let four = bit_at-most_1 u (k - 4) bits in
    let late_1 = delayed_bit-late u k 1 (omega arith) in
    let late_3 = delayed_bit-late u k 3 (omega arith) in
    let late_4 = delayed_bit-late u k 4 c.loop-k.auto.k in (
      length-set _ _ _ ∙ length-set _ _ _ ∙ c.loop-k.invariant.0,
      coded_more u c.loop-k.out k _ _ (omega (arith, c.loop-k-test.true, c.loop-k.invariant.0)) c.loop-k.invariant.1
          (first_by_xor _ _ _ x three four ∙ sym (ap₂ (λ p q. (get_or u k 0 + p + q) % 2) late_3 late_4))
          (second_by_xor _ _ _ _ x (bit_at-most_1 u (k - 1) bits) three four
          ∙ sym (ap (λ r. (get_or u k 0 + r + delayed_bit u k 3 + delayed_bit u k 4) % 2) late_1
          ∙ ap₂ (λ p q. (get_or u k 0 + get_or u (k - 1) 0 + p + q) % 2) late_3 late_4)),
    )
