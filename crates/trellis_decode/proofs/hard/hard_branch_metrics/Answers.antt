use Rattle.{
  std.proofs.Common.{◌≡◌, ℕ, ◌+◌, ◌*◌, ◌<◌, ◌≤◌, ◌∷◌, [], List, ℤ, pos, lit≤, get_or, take, drop},
  std.proofs.Common.arith,
  trellis_decode.{
    specs.Hard.{HasHardBranchMetrics, IsHardBit, sign_bit_of},
    proofs.{AcsSteps.{AreSignedOctets-pair, hard_octets, pair_lanes}, SurvivorLists.HaveMagnitudeAtMostOne-from_HasHardBranchMetrics},
  },
  lanes.{proofs.Lanes.each, specs.Lanes.lane},
}
use Rattle.trellis_decode.proofs.hard.hard_branch_metrics.Goals as goal

pub sign_bits_of_soft_bits-signs-requires-clause-octets : goal.sign_bits_of_soft_bits-signs-requires-clause-octets
sign_bits_of_soft_bits-signs-requires-clause-octets c = grind arith

pub returns-clause-has : goal.returns-clause-has
returns-clause-has c k d =
    let soft = c.args.soft.now in
    let bit = c.sign_bits_of_soft_bits-signs.ensures in
    let hard : (i : ℕ) → i < 8 → IsHardBit (lane soft i) = λ i lt. c.requires.hard i (pos 0) (omega (arith, c.requires.count)) in
    let pair : (lanes : List ℤ) (n i : ℕ) → i + 2 ≤ 8 → ((p q : ℤ) → IsHardBit p → IsHardBit q →
    n ≡ sign_bit_of p + 2 * sign_bit_of q → HasHardBranchMetrics lanes (p ∷ q ∷ [])) →
    n ≡ sign_bit_of (lane soft i) + 2 * sign_bit_of (lane soft (i + 1)) → HasHardBranchMetrics lanes (take 2 (drop i soft)) =
    λ lanes n i headroom has is. rw (pair_lanes soft i (omega (arith, c.requires.count)))
    (has _ _ (hard i (omega arith)) (hard (i + 1) (omega arith)) is) in
    each (λ k. HasHardBranchMetrics
    (get_or (c.first_bit_branch_metrics.result ∷ c.second_bit_branch_metrics.result ∷ c.first_bit_branch_metrics-2.result
    ∷ c.second_bit_branch_metrics-2.result ∷ []) k d).lanes (take 2 (drop (2 * k) soft))) 4 (
      (
        (
          (
            tt,
            pair _ _ 0 (lit≤ tt) c.first_bit_branch_metrics.ensures (omega (arith, bit 0 (lit≤ tt), bit 1 (lit≤ tt))),
          ),
          pair _ _ 2 (lit≤ tt) c.second_bit_branch_metrics.ensures (omega (arith, bit 2 (lit≤ tt), bit 3 (lit≤ tt))),
        ),
        pair _ _ 4 (lit≤ tt) c.first_bit_branch_metrics-2.ensures (omega (arith, bit 4 (lit≤ tt), bit 5 (lit≤ tt))),
      ),
      pair _ _ 6 (lit≤ tt) c.second_bit_branch_metrics-2.ensures (omega (arith, bit 6 (lit≤ tt), bit 7 (lit≤ tt))),
    ) k

pub returns-clause-within_one : goal.returns-clause-within_one
returns-clause-within_one c k d lt =
    HaveMagnitudeAtMostOne-from_HasHardBranchMetrics _ _
    (AreSignedOctets-pair _ (2 * k) (hard_octets _ c.requires.hard)) (returns-clause-has c k d lt)
