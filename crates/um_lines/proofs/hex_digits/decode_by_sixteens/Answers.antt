use Rattle.{
  std.proofs.{Common.{◌≡◌, ◌&&◌, ◌+◌, ◌-◌, ◌*◌, length, drop, ap, ap₂, ◌∙◌, arith}, lemmas.List.take_all},
  std.{proofs.lemmas.List.length-drop, specs.List.list_all},
  hex.specs.Hex.is_hex_digit,
  um_lines.proofs.Texts.{all_more, all_overlapping},
}
use Rattle.um_lines.proofs.hex_digits.decode_by_sixteens.Goals as goal

pub loop-at-preserved : goal.loop-at-preserved
loop-at-preserved c =
    let digits = c.args.digits.now in
    let at = c.loop-at.at in
    let inv = c.loop-at.invariant in
    let next : 2 * at + 32 ≡ 2 * (at + 16) = omega arith in (
      c.decode_sixteen_octets.ensures.length ∙ inv.0,
      c.decode_sixteen_octets.ensures.written,
      c.maxima-codes.ensures.test
          ∙ rw (inv.2, c.decode_sixteen_octets.ensures.test, ← next) (all_more is_hex_digit digits (2 * at) 32),
      c.maxima-codes.ensures.count,
      omega (arith, inv.5, c.decode_sixteen_octets.ensures.length),
      omega (arith, inv.5, c.decode_sixteen_octets.ensures.length),
    )

pub returns-clause-test : goal.returns-clause-test
returns-clause-test c =
    let digits = c.args.digits.now in
    let at = c.loop-at.at in
    let inv = c.loop-at.invariant in
    let last = length c.args.octets.now - 16 in
    let rest = take_all 32 (drop (2 * last) digits) (omega (arith, length-drop (2 * last) digits, c.requires.size)) in
    c.are_digits.ensures
    ∙ c.maxima.ensures.test
    ∙ ap₂ ◌&&◌ inv.2 (c.decode_sixteen_octets-2.ensures.test ∙ ap (list_all is_hex_digit) rest)
    ∙ all_overlapping is_hex_digit digits (2 * last) (2 * at) (omega (arith, c.loop-at-test.false))
