use Rattle.{std.proofs.Common.{◌≡◌, ◌<◌, ◌≤◌, drop, length}, list_decode.specs.Words.IsChainOfDeviations}
use Rattle.list_decode.proofs.words.RankedWords.chain_to_word.Given as goal

abbrev pub invariant-loop-at : goal.invariant-loop-at
invariant-loop-at l = record {
  long : length l.chain.word_indices ≡ 64;
  start : l.chain.start ≤ 64;
  within : l.at < l.self.count;
  left : l.at < l.chain.start;
  chain : IsChainOfDeviations l.self (drop l.chain.start l.chain.word_indices) l.at l.fn.word_index;
}

abbrev pub decreases-loop-at : goal.decreases-loop-at
decreases-loop-at l = l.at
