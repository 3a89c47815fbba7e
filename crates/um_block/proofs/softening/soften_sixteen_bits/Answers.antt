use Rattle.{
  std.proofs.{
    Common.{◌≡◌, length, take, drop, pos, ap, sym, ◌∙◌, arith},
    lemmas.List.{ext_get_or, get_or-map, get_or-take, get_or-drop, length-map, length-take-le, length-drop},
  },
  um_block.specs.Received.soft_bit_of,
}
use Rattle.um_block.proofs.softening.soften_sixteen_bits.Goals as goal

pub returns : goal.returns
returns c =
    let at = c.args.at in
    let burst = c.args.burst.now in
    let bits = take 16 (drop at burst) in
    let few : length bits ≡ 16 = length-take-le 16 _ (omega (arith, length-drop at burst)) in
    let long = length-map bits soft_bit_of in
    ext_get_or (pos 0) _ _ (omega arith) (λ k h. c.loop-i.invariant.1 k (omega arith)
    ∙ sym (get_or-map soft_bit_of bits k 0 (pos 0) (omega arith)
    ∙ ap soft_bit_of (get_or-take 16 (drop at burst) k 0 (omega arith) ∙ get_or-drop at burst k 0)))
