use Rattle.{
  std.proofs.{Common.{◌++◌, get_or, pos, sym, ◌∙◌, arith}, lemmas.List.{get_or_default, length-append}},
  interleave.{specs.Positions.position_in_burst, proofs.{Bursts.halves-at, Positions.position_in_burst-below}},
}
use Rattle.interleave.proofs.gathering.gather_burst.Goals as goal

pub returns : goal.returns
returns c =
    let first = c.args.first.now in
    let second = c.args.second.now in
    let old = c.args.soft.now in
    let new = c.deinterleave_half_burst-2.new.soft in
    record {
      count = omega arith;
      updated_bits = λ k d hk burst.
          let place = position_in_burst-below k in
          get_or_default new k d (pos 0) (omega arith)
          ∙ sym
          (halves-at first second k (pos 0) (get_or new k (pos 0)) c.requires.first
          (λ i hi lower. sym
          (c.deinterleave_half_burst-2.ensures.unchanged_bits k hk (λ same j hj upper. absurd (omega arith))
          ∙ c.deinterleave_half_burst.ensures.updated_bits k i hk burst hi lower))
          (λ i hi upper. sym (c.deinterleave_half_burst-2.ensures.updated_bits k i hk burst hi upper)))
          ∙ get_or_default (first ++ second) (position_in_burst k) (pos 0) d (omega (arith, length-append first second));
      unchanged_bits = λ k d hk other. get_or_default new k d (pos 0) (omega arith)
          ∙ c.deinterleave_half_burst-2.ensures.unchanged_bits k hk (λ same. absurd (other same))
          ∙ c.deinterleave_half_burst.ensures.unchanged_bits k hk (λ same. absurd (other same))
          ∙ get_or_default old k (pos 0) d (omega arith);
    }
