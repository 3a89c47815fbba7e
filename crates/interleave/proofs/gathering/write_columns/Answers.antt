use Rattle.{
  std.{
    proofs.Common.{◌≡◌, ℕ, ◌+◌, ◌*◌, ◌/◌, ◌%◌, ◌^◌, ◌<◌, get_or, ap, ◌∙◌, arith, below_more, w8, w64},
    specs.Int.{cast_signed, to_le_bytes},
  },
  interleave.specs.ColumnPositions.coded_bit_number_in_column,
}
use Rattle.interleave.proofs.gathering.write_columns.Goals as goal

to_le_bytes-octet : (n r : ℕ) → r < 8 → get_or (to_le_bytes w64 n) r 0 ≡ n / 256 ^ r % 256
to_le_bytes-octet n = grind arith

pub loop-s-preserved : goal.loop-s-preserved
loop-s-preserved c =
    let s = c.loop-s.s in
    let group = c.args.group in
    let columns = c.args.columns.now in
    let soft = c.write_column.new.soft in
    let unchanged_bits = c.write_column.ensures.unchanged_bits in
    let all = below_more (λ i. (r : ℕ) → r < 8 → get_or soft (coded_bit_number_in_column _ r) _ ≡ cast_signed w8 _) s
    (λ i hi r hr. unchanged_bits (8 * group + i) r (omega arith) (omega arith) hr ∙ c.loop-s.invariant.1 i r hi hr)
    (λ r hr. c.write_column.ensures.updated_bits r hr
    ∙ ap (λ octets. cast_signed w8 (get_or octets r 0)) c.to_le_bytes.ensures
    ∙ ap (cast_signed w8) (to_le_bytes-octet (get_or columns s 0) r hr)) in (
      c.write_column.array_long,
      λ i r hi hr. all i hi r hr,
      λ q r hq hr. unchanged_bits q r (omega arith) (omega arith) hr ∙ c.loop-s.invariant.2 q r hq hr,
    )
