use Rattle.{
  std.proofs.Common.{ℕ, ◌*◌, ◌<◌, ◌∷◌, [], List, ℤ, lit≤, get_or, take, drop, sym, subst},
  trellis_decode.{
    specs.{AcsLanes.HasBranchMetrics, declared.acs_lanes.EightLanes.EightLanes},
    proofs.{AcsSteps.{AreSignedOctets-pair, branch_metrics_at, four_pairs}, SurvivorLists.AreBranchMetrics-from_HasBranchMetrics},
  },
  lanes.proofs.Lanes.each,
}
use Rattle.trellis_decode.proofs.branch_metrics.four_branch_metrics.Goals as goal

abbrev place : List ℤ → ℕ → EightLanes
place values i = record { lanes = branch_metrics_at values i }

abbrev places : List ℤ → List EightLanes
places values = place values 0 ∷ place values 2 ∷ place values 4 ∷ place values 6 ∷ []

pub returns-clause-has : goal.returns-clause-has
returns-clause-has c k d =
    let has = four_pairs c.args.soft.now c.requires.octets c.requires.count in
    subst (λ v. k < 4 → HasBranchMetrics (get_or (places v) k d).lanes (take 2 (drop (2 * k) c.args.soft.now)))
    (sym c.widen_to_i16-values.ensures) (each
    (λ k. HasBranchMetrics (get_or (places c.args.soft.now) k d).lanes (take 2 (drop (2 * k) c.args.soft.now))) 4
    ((((tt, has 0 (lit≤ tt)), has 1 (lit≤ tt)), has 2 (lit≤ tt)), has 3 (lit≤ tt)) k)

pub returns-clause-branch_metrics : goal.returns-clause-branch_metrics
returns-clause-branch_metrics c k d lt =
    AreBranchMetrics-from_HasBranchMetrics _ _ (AreSignedOctets-pair _ (2 * k) c.requires.octets) (returns-clause-has c k d lt)
