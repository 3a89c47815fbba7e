use Rattle.{
  std.proofs.{Common.{◌*◌, ◌%◌, ◌++◌, ◌∙◌, arith}, lemmas.List.get_or_append_left},
  interleave.proofs.PackedColumns.get_or-picked,
}
use Rattle.interleave.proofs.columns.columns_of_packed.Goals as goal

pub returns-clause-each : goal.returns-clause-each
returns-clause-each c q lt =
    let packed = c.args.packed.now in
    get_or-picked (λ q. 8 * q % 57) 64 (packed ++ packed) q lt
    ∙ get_or_append_left packed packed 0 (8 * q % 57) (omega (arith, c.told-packed))
