use Rattle.{std.proofs.Common.◌+◌, list_decode.specs.Words.{DeviatesAtSamePosition, returned_words, word_made_by}}
use Rattle.list_decode.proofs.choice.compare_deviation_chains.Given as goal

abbrev pub invariant-loop-x : goal.invariant-loop-x
invariant-loop-x l = record {
  first : DeviatesAtSamePosition (returned_words l.words) (word_made_by l.words l.first) l.x;
  second : DeviatesAtSamePosition (returned_words l.words) (word_made_by l.words l.second) l.y;
}

abbrev pub decreases-loop-x : goal.decreases-loop-x
decreases-loop-x l = l.x.word_index + l.y.word_index
