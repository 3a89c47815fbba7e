use Rattle.{
  std.{proofs.Common.{subst, sym}, specs.Prelude.◌↔◌},
  um_block.specs.bit_blocks.SoftValues.{AllSoftBits, IsSoftBit},
  um_c.proofs.Rows.All-flat_map,
}
use Rattle.um_c.proofs.soft.are_soft_rows.Goals as goal

pub returns : goal.returns
returns c =
    let all = All-flat_map IsSoftBit c.args.bursts.now in
    let same = c.as_flattened.ensures.value in (
      λ yes. all.0 (subst AllSoftBits same (c.are_soft_bits.ensures.0 yes)),
      λ soft. c.are_soft_bits.ensures.1 (subst AllSoftBits (sym same) (all.1 soft)),
    )
