use Rattle.{
  bit_blocks.specs.SoftValues.AllSoftBits,
  std.proofs.{Common.{ap, arith, length, subst, sym, take, ◌+◌, ◌-◌, ◌∙◌, ◌≡◌}, lemmas.List.take_all},
  um_block.{proofs.SoftenedBits.{AllSoftBits-softened, softened-before, softened-more}, specs.Received.soft_bits},
}
use borrow.Rule.Slice.PartMut.{put_mid}
use Rattle.um_block.proofs.softening.soften_burst_into.Goals as goal

pub loop-at-preserved : goal.loop-at-preserved
loop-at-preserved c =
    let at = c.loop-at.at in
    let soft = c.loop-at.soft in
    let sixteen = c.copy_from_slice.new.self in
    let width : at + 16 - at ≡ 16 = omega arith in
    let both = softened-more c.args.burst.now at soft sixteen (omega (arith, c.told-burst)) (omega (arith, c.loop-at.invariant.0))
    c.loop-at.invariant.1 (c.copy_from_slice.ensures.after ∙ c.soften_sixteen_bits.ensures) in (
      ap (λ n. length (put_mid at n soft sixteen)) width ∙ both.1 ∙ c.loop-at.invariant.0,
      ap (λ n. take (at + 16) (put_mid at n soft sixteen)) width ∙ both.0,
      omega (arith, c.loop-at.invariant.3),
      grind (arith, c.loop-at.invariant.3),
    )

pub returns-clause-value : goal.returns-clause-value
returns-clause-value c =
    let burst = c.args.burst.now in
    let soft = c.loop-at.soft in
    let sixteen = c.copy_from_slice-2.new.self in
    let front = softened-before burst soft 132 c.loop-at.at (omega arith) c.loop-at.invariant.1 in
    let both = softened-more burst 132 soft sixteen (omega (arith, c.told-burst)) (omega (arith, c.loop-at.invariant.0)) front
    (c.copy_from_slice-2.ensures.after ∙ c.soften_sixteen_bits-2.ensures) in
    sym (take_all 148 (put_mid 132 16 soft sixteen) (omega (arith, both.1, c.loop-at.invariant.0))) ∙ both.0
    ∙ ap soft_bits (take_all 148 burst (omega (arith, c.told-burst)))

pub returns-clause-soft : goal.returns-clause-soft
returns-clause-soft c = subst AllSoftBits (sym (returns-clause-value c)) (AllSoftBits-softened c.args.burst.now)
