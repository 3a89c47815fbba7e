use Rattle.{
  std.proofs.Common.{◌≡◌, ◌≢◌, ℕ, ◌*◌, ◌<◌, length},
  conv_code.specs.{Code.encoding, Likelihood.{likelihood, RanksAfter}},
  trellis_decode.specs.Words.to_binary,
}
use Rattle.trellis_decode.proofs.exhaustive.search.Given as goal

-- `chosen` is the number of the most likely encoder input so far, or of the first one if several are equally likely
abbrev pub invariant-loop-number : goal.invariant-loop-number
invariant-loop-number l = record {
  before : l.chosen < l.number;
  value : l.best ≡ likelihood l.soft (encoding (to_binary (length l.u) (16 * l.chosen)));
  others : (m : ℕ) → m < l.number → m ≢ l.chosen →
      RanksAfter l.soft (to_binary (length l.u) (16 * m)) (to_binary (length l.u) (16 * l.chosen));
}
