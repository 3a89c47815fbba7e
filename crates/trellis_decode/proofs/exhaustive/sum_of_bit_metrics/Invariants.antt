use Rattle.{std.proofs.Common.{◌≡◌, ◌*◌, take, pos, ◌-ℤ◌, ◌≤ℤ◌}, conv_code.specs.Likelihood.likelihood}
use Rattle.trellis_decode.proofs.exhaustive.sum_of_bit_metrics.Given as goal

abbrev pub invariant-loop-k : goal.invariant-loop-k
invariant-loop-k l = record {
  value : l.sum ≡ likelihood (take l.k l.soft) (take l.k l.coded);
  low : (pos 0 -ℤ pos (128 * l.k)) ≤ℤ l.sum;
  high : l.sum ≤ℤ pos (128 * l.k);
}
