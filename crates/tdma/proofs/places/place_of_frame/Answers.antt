use Rattle.std.proofs.Common.{sym, ◌∙◌}
use Rattle.tdma.proofs.Cycles.{burst_below_4}
use Rattle.tdma.proofs.places.place_of_frame.Goals as goal

pub returns-clause-burst : goal.returns-clause-burst
returns-clause-burst c =
    burst_below_4 c.args.combination c.args.direction c.args.timeslot c.args.frame c.in_ok-position.position
    (sym c.position_of_frame.ensures ∙ c.in_ok-position.was)
