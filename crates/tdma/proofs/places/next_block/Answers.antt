use Rattle.std.proofs.Common.{arith, Some}
use Rattle.tdma.proofs.Cycles.{no_block_begins}
use Rattle.tdma.proofs.places.next_block.Goals as goal

pub returns : goal.returns
returns c = λ f within begins.
    no_block_begins c.args.combination c.args.direction c.args.timeslot
    (Some (record { channel = c.args.channel; subchannel = c.args.subchannel; burst = 0 })) c.args.frame
    (λ ahead lt. c.loop-ahead.invariant ahead (omega arith)) f begins
