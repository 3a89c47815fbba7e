use Rattle.{std.proofs.Common.{refl, w16, ◌∷◌, []}, lanes.proofs.Lanes.shuffled}
use Rattle.trellis_decode.proofs.acs_lanes.interleave_first_lanes.Goals as goal

pub returns-clause-each : goal.returns-clause-each
returns-clause-each c = shuffled w16 refl 8 8 _ _ c.requires.first c.requires.second (0 ∷ 8 ∷ 1 ∷ 9 ∷ 2 ∷ 10 ∷ 3 ∷ 11 ∷ [])
