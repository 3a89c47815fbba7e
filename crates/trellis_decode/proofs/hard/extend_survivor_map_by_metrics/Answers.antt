use Rattle.trellis_decode.proofs.HardLanes.{selected-at, length-selected}
use Rattle.trellis_decode.proofs.hard.extend_survivor_map_by_metrics.Goals as goal

pub returns-clause-each : goal.returns-clause-each
returns-clause-each c = selected-at _ _ c.requires.zero c.requires.one _ c.requires.map

pub returns-clause-count : goal.returns-clause-count
returns-clause-count c = length-selected _ _ c.requires.zero c.requires.one c.args.map
