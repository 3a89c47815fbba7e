use Rattle.{std.proofs.Common.{get_or, ap, ◌∙◌, arith}, interleave.proofs.PackedColumns.{put_mid-first, put_mid-second}}
use Rattle.interleave.proofs.columns.repeat_columns.Goals as goal

pub returns-clause-front : goal.returns-clause-front
returns-clause-front c q hq =
    put_mid-first 57 64 _ _ _ (omega arith) q hq ∙ ap (λ xs. get_or xs q 0) (c.copy_from_slice.ensures.after)

pub returns-clause-back : goal.returns-clause-back
returns-clause-back c q hq =
    put_mid-second 57 64 c.copy_from_slice.new.self _ _ (omega arith) q (omega arith)
    ∙ ap (λ xs. get_or xs q 0) (c.copy_from_slice-2.ensures.after)
