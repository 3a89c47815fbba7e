use Rattle.{
  std.proofs.{Common.{◌+◌, ◌*◌, ◌%◌, ap, ◌∙◌, arith}, lemmas.List.Edits.get_or-between},
  bit_blocks.specs.Packed.{bit_of, packed_bit_index},
  interleave.proofs.PackedColumns.row_bit,
}
use Rattle.interleave.proofs.columns.Columns.sixteen_alternate_bits.Goals as goal

pub returns-clause-each : goal.returns-clause-each
returns-clause-each c coded p are hp =
    let row = c.args.burst_number + 4 * (c.args.place % 2) in
    c.bit_of_each_octet.ensures.each p hp
    ∙ ap (λ octet. bit_of octet (packed_bit_index row)) (get_or-between _ _ _ p 0 (omega arith))
    ∙ row_bit _ _ c.args.burst_number c.args.place p are c.requires.burst c.requires.place hp
