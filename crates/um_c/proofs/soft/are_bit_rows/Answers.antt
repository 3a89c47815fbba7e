use Rattle.{
  std.{proofs.Common.{subst, sym}, specs.Prelude.◌↔◌},
  um_block.specs.bit_blocks.Bits.{AllBits, IsBit},
  um_c.proofs.Rows.All-flat_map,
}
use Rattle.um_c.proofs.soft.are_bit_rows.Goals as goal

pub returns : goal.returns
returns c =
    let all = All-flat_map IsBit c.args.bursts.now in
    let same = c.as_flattened.ensures.value in (
      λ yes. all.0 (subst AllBits same (c.are_bits.ensures.0 yes)),
      λ bits. c.are_bits.ensures.1 (subst AllBits (sym same) (all.1 bits)),
    )
