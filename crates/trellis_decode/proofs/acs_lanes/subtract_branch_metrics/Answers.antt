use Rattle.{std.proofs.{Common.{arith, w16}, lemmas.Int.ints}, lanes.proofs.Lanes.differences}
use Rattle.trellis_decode.proofs.acs_lanes.subtract_branch_metrics.Goals as goal

pub returns : goal.returns
returns c =
    let a = c.requires.headroom16 in
    let b = c.requires.branch_metrics in
    differences w16 8 c.args.path_metrics.lanes c.args.branch_metrics.lanes (grind (arith, ints)) (grind (arith, ints)) (grind
    (arith, ints))
