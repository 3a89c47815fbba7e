use Rattle.{std.proofs.{Common.{◌+◌, ◌*◌, ◌<◌, length, arith}, lemmas.List.length-set}, um_lines.proofs.Texts.digits_set}
use Rattle.um_lines.proofs.lower_digits.write_sixteen_hex_octets.Goals as goal

pub loop-i-preserved : goal.loop-i-preserved
loop-i-preserved c =
    let at = c.args.at + c.loop-i.i in
    let small : c.loop-i.i < 16 = c.loop-i-test.true in
    let buffer : 2 * at + 1 < length c.loop-i.digits = omega arith in (
      simp length-set c.loop-i.invariant.0,
      λ k within. digits_set c.args.octets.now c.loop-i.digits at _ _ buffer (c.digits_of_sixteen.ensures.high c.loop-i.i small)
          (c.digits_of_sixteen.ensures.low c.loop-i.i small) c.loop-i.invariant.1 k (omega arith),
    )
