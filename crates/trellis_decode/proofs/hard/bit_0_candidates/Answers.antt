use Rattle.trellis_decode.proofs.HardLanes.{candidates_of_bit_0}
use Rattle.trellis_decode.proofs.hard.bit_0_candidates.Goals as goal

pub returns : goal.returns
returns c = let is = candidates_of_bit_0 c.args.metrics_after.lanes _ c.requires.headroom c.requires.branch_metrics in
    record { each = is.0; lanes = is.1 }
