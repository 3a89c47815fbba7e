use Rattle.{std.proofs.Common.{◌≡◌, ◌<◌, ◌*◌, ◌+◌, ◌++◌, take, drop}, trellis_decode.specs.Trellis.traceback}
use Rattle.list_decode.proofs.deviation.replace_until_merged.Given as goal

-- the result is the bits written so far, then the survivor of `state`; the bits not overwritten yet are as they were
abbrev pub invariant-loop-group : goal.invariant-loop-group
invariant-loop-group l = record {
  small : l.state < 16;
  list : take (4 * l.group) l.u ++ traceback (drop (4 * l.group) l.rows) l.state ≡ traceback l.rows l.fn.state;
  rest : drop (4 * l.group) l.u ≡ drop (4 * l.group) l.fn.u;
}

abbrev pub invariant-loop-i : goal.invariant-loop-i
invariant-loop-i l = record {
  small : l.state < 16;
  list : take (4 * l.group + l.i) l.u ++ traceback (drop (4 * l.group + l.i) l.rows) l.state ≡ traceback l.rows l.fn.state;
  rest : drop (4 * l.group + l.i) l.u ≡ drop (4 * l.group + l.i) l.fn.u;
}
