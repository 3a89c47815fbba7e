use Rattle.{std.proofs.Common.{refl, w16, ◌∷◌, []}, lanes.proofs.Lanes.shuffled}
use Rattle.trellis_decode.proofs.acs_lanes.interleave_last_lanes.Goals as goal

pub returns-clause-each : goal.returns-clause-each
returns-clause-each c = shuffled w16 refl 8 8 _ _ c.requires.first c.requires.second
    (4 ∷ 12 ∷ 5 ∷ 13 ∷ 6 ∷ 14 ∷ 7 ∷ 15 ∷ [])
