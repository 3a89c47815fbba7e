use Rattle.{
  std.{proofs.{Common.{[], sym, subst, ◌∙◌, arith}, lemmas.List.{ext_get_or, get_or-map, length-map}}, specs.List.All},
  bit_blocks.specs.SoftValues.AllSoftBits,
  um_block.{specs.Received.soft_bits, proofs.SoftenedBits.AllSoftBits-all},
}
use Rattle.um_block.proofs.softening.soften_block.Goals as goal

pub returns-clause-value : goal.returns-clause-value
returns-clause-value c =
    let block = c.args.block.now in
    let long = length-map block soft_bits in
    ext_get_or [] _ _ (omega arith) (λ k h. c.loop-b.invariant.1 k (omega arith)
    ∙ sym (get_or-map soft_bits block k [] [] (omega arith)))

pub returns-clause-soft : goal.returns-clause-soft
returns-clause-soft c = subst (All AllSoftBits) (sym (returns-clause-value c)) (AllSoftBits-all c.args.block.now)
