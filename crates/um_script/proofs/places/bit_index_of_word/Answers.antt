use Rattle.{
  std.proofs.Common.{◌≡◌, ◌+◌, ◌-◌, ◌*◌, min, get_or, rules, arith, ◌∙◌},
  um_script.proofs.ScriptLines.next_digit-place,
}
use Rattle.um_script.proofs.places.bit_index_of_word.Goals as goal

pub loop-digit-preserved : goal.loop-digit-preserved
loop-digit-preserved c =
    let new : c.min-place.result ≡ min (10 * c.loop-digit.place + (get_or c.args.word.now c.loop-digit.digit-index 0 - 48)) 592 =
    first_of (omega (arith, c.min-place.ensures, c.from.ensures), grind arith, search rules) in
    let next = next_digit-place c.args.word.now c.loop-digit.digit-index c.loop-digit.place c.min-place.result c.loop-digit-test.true
    c.loop-digit.invariant.digits new in
    record { in_range = next.0; digits = next.1; same = next.2 ∙ c.loop-digit.invariant.same }
