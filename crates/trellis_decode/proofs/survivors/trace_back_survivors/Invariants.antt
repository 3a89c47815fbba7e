use Rattle.{std.proofs.Common.{◌≡◌, ◌*◌, ◌<◌, ◌++◌, take, drop}, trellis_decode.specs.SurvivorPaths.survivor_traceback}
use Rattle.trellis_decode.proofs.survivors.trace_back_survivors.Given as goal

-- the bits written so far, followed by those that traceback reads from the remaining maps, are the bits that it reads from all maps
abbrev pub invariant-loop-group : goal.invariant-loop-group
invariant-loop-group l = record {
  at : l.at < 16;
  list : take (4 * l.group) l.u ++ survivor_traceback (drop l.group l.survivors) l.at ≡ survivor_traceback l.survivors l.fn.at;
}
