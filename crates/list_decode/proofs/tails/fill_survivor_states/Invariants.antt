use Rattle.{
  std.proofs.Common.{◌≡◌, ◌<◌, ℕ, get_or, take},
  trellis_decode.specs.Trellis.traceback,
  list_decode.specs.DeviatingWords.state_after_bits,
}
use Rattle.list_decode.proofs.tails.fill_survivor_states.Given as goal

abbrev pub invariant-loop-k : goal.invariant-loop-k
invariant-loop-k l = record {
  small : l.state < 16;
  state : l.state ≡ state_after_bits 0 (take l.k (traceback l.rows 0));
  each : (j : ℕ) → j < l.k → get_or l.states j 0 ≡ state_after_bits 0 (take j (traceback l.rows 0));
}
