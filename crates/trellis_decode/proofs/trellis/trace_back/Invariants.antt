use Rattle.{std.proofs.Common.{◌≡◌, ◌<◌, ◌++◌, take, drop}, trellis_decode.specs.Trellis.traceback}
use Rattle.trellis_decode.proofs.trellis.trace_back.Given as goal

-- the bits written so far, followed by those that traceback reads from the remaining rows, are the bits that it reads from all rows
abbrev pub invariant-loop-k : goal.invariant-loop-k
invariant-loop-k l = record {
  state : l.state < 16;
  list : take l.k l.u ++ traceback (drop l.k l.rows) l.state ≡ traceback l.rows l.fn.state;
}
