use Rattle.{
  std.proofs.{
    Common.{arith, ◌≡◌, ◌≤◌, ◌<◌, length, ◌∙◌, sym},
    lemmas.{Grind.same_number_lists, List.{Elements.All-set, length-set}},
  },
  bit_blocks.proofs.Lemmas.{add_bits_more, length-xor_bits, bit_xor-at_most_1},
}
use Rattle.bit_blocks.proofs.bits.Bits.xor.Goals as goal

pub loop-i-preserved : goal.loop-i-preserved
loop-i-preserved g c =
    let h : c.loop-i.i < length c.self.inside.values = omega arith in
    let same : length c.self.inside.values ≡ length c.other.inside.values = omega arith in
    let bit = bit_xor-at_most_1 _ _ (c.self.invariant c.loop-i.i 0 h) (c.other.invariant c.loop-i.i 0 (omega arith)) in (
      All-set (λ bit. bit ≤ 1) _ _ _ bit c.loop-i.invariant.0,
      simp length-set c.loop-i.invariant.1,
      add_bits_more _ _ _ _ c.loop-i.invariant.1 same h c.self.invariant c.other.invariant c.loop-i.invariant.2,
    )

pub returns-clause-value : goal.returns-clause-value
returns-clause-value g c =
    let same : length c.self.inside.values ≡ length c.other.inside.values = omega arith in
    rw (← c.self.view_is, ← c.other.view_is)
    (same_number_lists _ _
    (c.loop-i.invariant.1 ∙ sym (length-xor_bits _ _ same))
    (λ k lt. c.loop-i.invariant.2 k (omega arith)))
