use Rattle.{
  burst_map.specs.training_seq.bit_blocks.SoftValues.IsSoftBit,
  std.proofs.{Common.{pos, arith, subst, sym, ◌∙◌}, lemmas.List.{ext_get_or, get_or-map, get_or_default, length-map}},
  um_slot.specs.Slots.softened,
}
use Rattle.um_slot.proofs.softening.softened_burst.Goals as goal

pub returns-clause-value : goal.returns-clause-value
returns-clause-value c =
    let long = length-map c.args.burst.now softened in
    ext_get_or (pos 0) _ _ (omega arith) (λ k h. c.loop-i.invariant.1 k (omega arith)
    ∙ sym (get_or-map softened c.args.burst.now k (pos 0) (pos 0) (omega arith)))

pub returns-clause-soft : goal.returns-clause-soft
returns-clause-soft c = λ k d lt.
    subst IsSoftBit (sym (get_or_default c.loop-i.soft k d (pos 0) lt)) (c.loop-i.invariant.2 k (omega arith))
