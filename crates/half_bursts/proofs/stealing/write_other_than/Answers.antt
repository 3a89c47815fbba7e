use Rattle.{
  half_bursts.specs.Halves.value_with_half,
  std.proofs.{Common.{arith, sym, ◌∙◌}, lemmas.List.ext_get_or},
  std.proofs.lemmas.List.FromFn.{get_or-map-range_with_len, length-map-range_with_len},
}
use Rattle.half_bursts.proofs.stealing.write_other_than.Goals as goal

pub returns-clause-value : goal.returns-clause-value
returns-clause-value c =
    let value = value_with_half 0 c.args.half c.args.burst.now c.args.into.now in
    let long = length-map-range_with_len value 0 148 in
    ext_get_or 0 _ _ (omega (arith, c.loop-p-2.invariant.0)) (λ k h. c.loop-p-2.invariant.1 k (omega (arith, c.loop-p-2.invariant.0))
    ∙ sym (get_or-map-range_with_len value 0 148 k k 0 (omega (arith, c.loop-p-2.invariant.0)) (omega arith)))
