use Rattle.{std.proofs.Common.drop, list_decode.proofs.ReturnedWords.IsOnChain}
use Rattle.list_decode.proofs.words.RankedWords.write_word.Given as goal

abbrev pub invariant-loop-k : goal.invariant-loop-k
invariant-loop-k l = record {
  way : IsOnChain l.self (drop l.k l.chain.word_indices) l.word_index l.u;
}
