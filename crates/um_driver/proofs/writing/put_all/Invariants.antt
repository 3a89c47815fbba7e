use Rattle.std.{proofs.Common.{length, take, ◌-◌, ◌≤◌, ◌≡◌}, specs.Io.KnownBytes.Appends}
use Rattle.um_driver.proofs.writing.put_all.Given as goal

abbrev pub invariant-loop-written : goal.invariant-loop-written
invariant-loop-written g l = record {
  bound : l.written ≤ length l.piece;
  front : Appends (g.K.Sink.taken l.fn.output) (g.K.Sink.taken l.output) (take l.written l.piece);
  kept : g.K.Sink.faults l.output ≡ g.K.Sink.faults l.fn.output;
}

abbrev pub decreases-loop-written : goal.decreases-loop-written
decreases-loop-written g l = length l.piece - l.written
