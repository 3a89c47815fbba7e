use Rattle.{std.proofs.Common.{◌≡◌, ◌<◌, take}, list_decode.specs.DeviatingWords.state_after_bits}
use Rattle.list_decode.proofs.tails.find_merging_index.Given as goal

abbrev pub invariant-loop-k : goal.invariant-loop-k
invariant-loop-k l = record {
  small : l.state < 16;
  state : l.state ≡ state_after_bits 0 (take l.k l.list);
}
