use Rattle.std.proofs.Common.{None, ℕ, ◌%◌, ◌+◌, ◌<◌, ◌≡◌}
use Rattle.tdma.specs.Traffic.{facch_that_begins}
use Rattle.tdma.specs.declared.TheConstants.{HYPERFRAME}
use Rattle.tdma.proofs.traffic.next_facch_block.Given as goal

abbrev pub invariant-loop-ahead : goal.invariant-loop-ahead
invariant-loop-ahead l = (a : ℕ) → a < l.ahead → facch_that_begins l.channel l.direction ((l.frame + a) % HYPERFRAME) ≡ None
