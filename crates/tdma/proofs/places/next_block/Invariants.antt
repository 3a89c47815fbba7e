use Rattle.std.proofs.Common.{ℕ, ◌%◌, ◌+◌, ◌<◌}
use Rattle.tdma.specs.Channels.{BeginsBlock}
use Rattle.tdma.specs.declared.TheConstants.{HYPERFRAME}
use Rattle.tdma.proofs.places.next_block.Given as goal

abbrev pub invariant-loop-ahead : goal.invariant-loop-ahead
invariant-loop-ahead l =
    (d : ℕ) → d < l.ahead → ¬ BeginsBlock l.combination l.direction l.timeslot l.channel l.subchannel ((l.frame + d) % HYPERFRAME)
