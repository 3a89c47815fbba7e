use Rattle.{
  std.{proofs.{Common.{arith, w8, w16, FitsSigned}, lemmas.{Int.ints, Simd.{Each1-zip2, Each2-all}}}, specs.Int.cast_signed},
  lanes.proofs.Lanes.if_either,
  trellis_decode.proofs.AcsVectors.{AreDecisionLanes-compared, decision_lanes-at},
}
use Rattle.trellis_decode.proofs.acs_lanes.decisions_from_candidates.Goals as goal

pub overflow_cast-result : goal.overflow_cast-result
overflow_cast-result c = Each1-zip2 _ _ _ _ (Each2-all _
    (λ a b. if_either (λ n. FitsSigned w8 (cast_signed w16 n)) _ {x = 65535} {y = 0} (omega (arith, ints)) (omega (arith, ints))) _ _)

pub returns-clause-each : goal.returns-clause-each
returns-clause-each c = decision_lanes-at _ _ c.requires.first c.requires.second

pub returns-clause-lanes : goal.returns-clause-lanes
returns-clause-lanes c = AreDecisionLanes-compared _ _ c.requires.first c.requires.second
