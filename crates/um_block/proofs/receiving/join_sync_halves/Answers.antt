use Rattle.{std.proofs.Common.{◌++◌, refl, ap₂, ◌∙◌, arith}, interleave.proofs.Bursts.put_mid-behind}
use Rattle.um_block.proofs.receiving.join_sync_halves.Goals as goal

pub returns : goal.returns
returns c =
    put_mid-behind 39 39 _ _ c.copy_from_slice-2.new.self (omega arith) refl
    ∙ ap₂ (λ x y. x ++ y) c.copy_from_slice.ensures.after c.copy_from_slice-2.ensures.after
