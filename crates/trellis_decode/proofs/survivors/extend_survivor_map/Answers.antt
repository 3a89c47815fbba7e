use Rattle.{
  std.proofs.Common.{arith, pos, w8},
  trellis_decode.proofs.AcsSteps.{AreInt8-joined, lane_of_state-inside, joined-decision, next_lane-state},
  lanes.proofs.Lanes.AreSigned-splat,
}
use Rattle.trellis_decode.proofs.survivors.extend_survivor_map.Goals as goal

pub extend_survivor_map_by_metrics-requires-clause-zero : goal.extend_survivor_map_by_metrics-requires-clause-zero
extend_survivor_map_by_metrics-requires-clause-zero c = AreInt8-joined c.args.low.lanes _ c.requires.low c.requires.high

pub extend_survivor_map_by_metrics-requires-clause-one : goal.extend_survivor_map_by_metrics-requires-clause-one
extend_survivor_map_by_metrics-requires-clause-one c = AreSigned-splat w8 16 (pos 0) (omega arith)

pub returns-clause-each : goal.returns-clause-each
returns-clause-each c s lt =
    cc (
      c.extend_survivor_map_by_metrics.ensures.each _ (lane_of_state-inside s lt),
      next_lane-state s lt _,
      joined-decision c.args.low.lanes c.args.high.lanes
          c.requires.low c.requires.high s lt,
    )
