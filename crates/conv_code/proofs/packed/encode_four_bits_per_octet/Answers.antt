use Rattle.{
  std.proofs.{Common.{◌*◌, ◌+◌, get_or, arith, ◌∙◌}, lemmas.List.length-set},
  bit_blocks.specs.Octets.bits_of,
  conv_code.proofs.Lemmas.{HoldsFourCodedPairs-straddling_octet, even_window, odd_window, quads_more},
}
use Rattle.conv_code.proofs.packed.encode_four_bits_per_octet.Goals as goal

pub loop-m-preserved : goal.loop-m-preserved
loop-m-preserved c =
    let shifted = c.args.shifted.now in
    let m = c.loop-m.m in
    let bits = bits_of shifted in (
      length-set _ _ _ ∙ length-set _ _ _ ∙ c.loop-m.invariant.0,
      quads_more bits c.loop-m.packed m c.encode_upper_four_bits.result c.encode_upper_four_bits-in-loop-m.result c.loop-m.invariant.0
          (omega arith)
          (HoldsFourCodedPairs-straddling_octet bits c.straddling_octet.result c.encode_upper_four_bits.result (2 * m)
          (even_window shifted m c.straddling_octet.result c.straddling_octet.ensures.low c.straddling_octet.ensures.high)
          c.encode_upper_four_bits.ensures.first
          c.encode_upper_four_bits.ensures.second)
          (HoldsFourCodedPairs-straddling_octet bits (get_or shifted (m + 1) 0) c.encode_upper_four_bits-in-loop-m.result (2 * m + 1)
          (odd_window shifted m) c.encode_upper_four_bits-in-loop-m.ensures.first c.encode_upper_four_bits-in-loop-m.ensures.second)
          c.loop-m.invariant.1,
    )
