use Rattle.{
  std.proofs.Common.{map, ap, ◌∙◌},
  bit_blocks.specs.SoftValues.count_wrong_bits,
  conv_code.specs.Code.encoding,
  interleave.proofs.Bursts.same_coded,
}
use Rattle.um_block.proofs.counting.wrong_block_bits.Goals as goal

pub returns-clause-value : goal.returns-clause-value
returns-clause-value c = λ soft deinterleaved. c.wrong_coded_bits.ensures.value
    ∙ ap (λ values. count_wrong_bits values (encoding c.args.input.now))
    (same_coded _ _ (map _ _) c.deinterleave_block.ensures.deinterleaved deinterleaved)

pub returns-clause-some : goal.returns-clause-some
returns-clause-some c = (c.deinterleave_block.result, c.deinterleave_block.ensures.deinterleaved)
