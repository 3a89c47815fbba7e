use Rattle.list_decode.specs.PartialTracebacks.{IsPartialTraceback}
use Rattle.list_decode.proofs.deviation.find_least_loss.Given as goal

abbrev pub invariant-loop-k : goal.invariant-loop-k
invariant-loop-k l = record {
  reading : IsPartialTraceback l.rows l.losses l.u l.k l.reading;
}
