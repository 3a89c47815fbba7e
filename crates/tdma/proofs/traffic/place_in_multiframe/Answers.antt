use Rattle.std.proofs.Common.{ap, arith, sym, ◌%◌, ◌-◌, ◌/◌, ◌∙◌}
use Rattle.tdma.proofs.TrafficTables.{found_by_rule}
use Rattle.tdma.proofs.traffic.place_in_multiframe.Goals as goal

pub returns : goal.returns
returns c =
    rw (
      c.number_if.ensures,
      c.number_if-2.ensures,
      c.channels_in_slot-channels.ensures,
      c.first_facch_burst-first.ensures,
      c.facch_bursts.ensures,
    )
    (found_by_rule c.args.channel c.args.direction c.args.frame (omega arith) c.if-frame-eq12.false
    (ap (λ m. (c.args.frame - c.args.frame / 13) % m) (sym c.channels_in_slot-channels.ensures) ∙ c.if-number-channels.false
    ∙ c.subchannel.ensures))
