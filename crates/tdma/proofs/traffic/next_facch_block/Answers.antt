use Rattle.std.proofs.Common.{arith, refl}
use Rattle.tdma.proofs.TrafficTables.{last_begins}
use Rattle.tdma.proofs.traffic.next_facch_block.Goals as goal

pub returns : goal.returns
returns c = record {
  next = record {
    ahead = 25;
    next_is = refl;
    begins = last_begins c.args.channel c.args.direction c.args.frame (λ a lt. c.loop-ahead.invariant a (omega arith));
    none_before = λ a lt. c.loop-ahead.invariant a (omega arith);
  };
}
