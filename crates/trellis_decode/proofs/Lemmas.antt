-- Lemmas that other crates cite.
pub use Rattle.trellis_decode.proofs.AcsSteps.{bit_metric-zero, bit_metric-one}
pub use Rattle.trellis_decode.proofs.Viterbi.{IsMostLikely-most_likely, some_most_likely, HasTailBits-bits, HasTailBits-from_tail}
pub use Rattle.trellis_decode.proofs.Viterbi.{lex_before-not_after, IsEncoderInput-ends, IsMostLikely-best}
pub use Rattle.trellis_decode.proofs.Viterbi.{metric_from_state-start, IsNoBetterPath-same, metric_from_state-cons, length-traceback}
pub use Rattle.trellis_decode.proofs.Viterbi.{IsMostLikely-chosen, less_by_test, RanksBehind-new, RanksBehind-old, lex_before-to_binary}
pub use Rattle.trellis_decode.proofs.Viterbi.{IsEncoderInput-to_binary, RanksBehind-leads, length-to_binary}
pub use Rattle.trellis_decode.proofs.Viterbi.{nth_likelihood, to_binary-information}
