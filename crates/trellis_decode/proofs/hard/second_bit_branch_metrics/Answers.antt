use Rattle.{
  std.proofs.Common.{◌∷◌, [], sym, subst},
  trellis_decode.{specs.Hard.HasHardBranchMetrics, proofs.AcsSteps.{HasHardBranchMetrics-row, second_row}},
}
use Rattle.trellis_decode.proofs.hard.second_bit_branch_metrics.Goals as goal

pub returns : goal.returns
returns c p q hp hq is =
    subst (λ row. HasHardBranchMetrics row (p ∷ q ∷ [])) (sym (second_row _ c.args.signs c.requires))
    (HasHardBranchMetrics-row _ _ p q hp hq is)
