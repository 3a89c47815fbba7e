use Rattle.{std.proofs.Common.{refl, w16, ◌∷◌, []}, lanes.proofs.Lanes.shuffled}
use Rattle.trellis_decode.proofs.acs_lanes.to_state_order.Goals as goal

pub returns : goal.returns
returns c = shuffled w16 refl 8 8 _ _ c.requires.low_lanes c.requires.high_lanes
    (0 ∷ 4 ∷ 2 ∷ 6 ∷ 1 ∷ 5 ∷ 3 ∷ 7 ∷ 8 ∷ 12 ∷ 10 ∷ 14 ∷ 9 ∷ 13 ∷ 11 ∷ 15 ∷ [])
