use Rattle.{
  std.proofs.Common.{◌++◌, refl, ap, ap₂, ◌∙◌, arith},
  burst_map.specs.NormalBurst.{first_coded_half, second_coded_half},
  interleave.proofs.Bursts.put_mid-behind,
}
use Rattle.um_block.proofs.receiving.coded_soft_bits.Goals as goal

pub returns : goal.returns
returns c =
    let burst = c.new-parts.ensures.value in
    put_mid-behind 57 57 _ _ c.copy_from_slice-2.new.self (omega arith) refl
    ∙ ap₂ (λ x y. x ++ y) (c.copy_from_slice.ensures.after ∙ c.first.ensures.value ∙ ap first_coded_half burst)
    (c.copy_from_slice-2.ensures.after ∙ c.second.ensures.value ∙ ap second_coded_half burst)
