use Rattle.{
  std.proofs.{
    Common.{◌&&◌, ◌+◌, ◌*◌, ◌<◌, ◌∙◌, ap₂, inl, inr, arith},
    lemmas.{Bool.cases_eq, List.{length-set, get_or-set_same, get_or-set_other}},
  },
  hex.specs.Hex.is_hex_digit,
  um_lines.proofs.Texts.{decoded_at, two_sixteens},
}
use Rattle.um_lines.proofs.hex_digits.decode_sixteen_octets.Goals as goal

pub loop-i-preserved : goal.loop-i-preserved
loop-i-preserved c =
    let at = c.args.at + c.loop-i.i in
    let octets = c.loop-i.octets in
    let small : c.loop-i.i < 16 = c.loop-i-test.true in (
      length-set octets at _ ∙ c.loop-i.invariant.0,
      λ all k within. elim (cases_eq k at) [
        | inl same ↦ rw same (get_or-set_same octets at _ 0 (omega arith)
            ∙ c.join_pairs-decoded.ensures c.loop-i.i small
            ∙ decoded_at c.args.digits.now _ _ c.args.at c.loop-i.i (omega arith) small all
            c.from_digits-front.ensures.values c.from_digits-back.ensures.values)
        | inr other ↦ get_or-set_other octets at k _ 0 other ∙ c.loop-i.invariant.1 all k (omega arith)
      ],
    )

pub returns-clause-test : goal.returns-clause-test
returns-clause-test c =
    c.maxima.ensures.test
    ∙ ap₂ ◌&&◌ c.from_digits-front.ensures.test c.from_digits-back.ensures.test
    ∙ two_sixteens is_hex_digit c.args.digits.now (2 * c.args.at)
