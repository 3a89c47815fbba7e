use Rattle.{
  std.proofs.Common.{ℕ, suc, ◌+◌, ◌*◌, ◌^◌, List, [], ◌∷◌, get_or, refl, arith, w16},
  interleave.proofs.JoinedLanes.paired_lane,
  lanes.proofs.Lanes.same_below,
}
use Rattle.interleave.proofs.joining.join_octet_pairs.Goals as goal

pub returns-clause-first : goal.returns-clause-first
returns-clause-first c s h =
    let order : List ℕ = 0 ∷ 8 ∷ 1 ∷ 9 ∷ 2 ∷ 10 ∷ 3 ∷ 11 ∷ [] in
    paired_lane w16 (2 ^ 32) 4 8 c.args.x c.args.y refl c.requires.x c.fits-x.1 c.fits-y.1 order s _ refl h (omega arith) (omega arith)
    (same_below (λ s. get_or order (2 * s) 0) (λ s. s) refl s h) (same_below (λ s. get_or order (suc (2 * s)) 0) (λ s. 8 + s) refl s h)

pub returns-clause-last : goal.returns-clause-last
returns-clause-last c s h =
    let order : List ℕ = 4 ∷ 12 ∷ 5 ∷ 13 ∷ 6 ∷ 14 ∷ 7 ∷ 15 ∷ [] in
    paired_lane w16 (2 ^ 32) 4 8 c.args.x c.args.y refl c.requires.x c.fits-x.1 c.fits-y.1 order s _ refl h (omega arith) (omega arith)
    (same_below (λ s. get_or order (2 * s) 0) (λ s. 4 + s) refl s h)
    (same_below (λ s. get_or order (suc (2 * s)) 0) (λ s. 8 + (4 + s)) refl s h)
