use Rattle.{std.proofs.Common.◌*◌, list_decode.specs.PartialTracebacks.IsPartialTraceback}
use Rattle.list_decode.proofs.deviation.trace_back_groups_of_four.Given as goal

abbrev pub invariant-loop-group : goal.invariant-loop-group
invariant-loop-group l = record {
  reading : IsPartialTraceback l.rows l.losses l.u (4 * l.group) l.reading;
}
