use Rattle.{
  std.proofs.{Common.{◌≡◌, map, refl, ap₂, ◌∙◌}, lemmas.Int.to_z-of_z},
  um_block.specs.{bit_blocks.SoftValues.count_wrong_bits, conv_code.Code.encoding, Received.coded_soft_bits},
  um_block.proofs.interleave.Bursts.same_coded,
}
use Rattle.um_c.proofs.blocks.block_report_of.Goals as goal

pub returns : goal.returns
returns c =
    let same : c.copy_from_slice.new.self ≡ c.args.received.now.u = c.copy_from_slice.ensures.after ∙ c.as_slice.ensures.value in
    record {
      word = same;
      metric = search (to_z-of_z);
      tsc = refl;
      wrong_training = refl;
      wrong_coded = λ soft deinterleaved. c.wrong_coded_bits.ensures.value
          ∙ ap₂ (λ values word. count_wrong_bits values (encoding word))
          (same_coded c.args.soft.now soft (map coded_soft_bits c.args.bursts.now) c.requires.deinterleaved deinterleaved) same;
      accepted = c.accepted_flag_and_octets-accepted.ensures;
    }
