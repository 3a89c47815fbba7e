use Rattle.{
  std.proofs.Common.{◌≡◌, ◌+◌, ◌++◌, length, take},
  um_lines.specs.Words.words,
  um_script.specs.Held.{remaining_words, decimal_word_values, AreBitIndexWords},
}
use Rattle.um_script.proofs.places.hold_places.Given as goal

-- the indices written so far, followed by those of the remaining words, are the indices of all words
abbrev pub invariant-loop-rest : goal.invariant-loop-rest
invariant-loop-rest l =
    record {
      all : take l.count l.places ++ decimal_word_values (remaining_words l.rest) ≡ decimal_word_values (words l.fn.text);
      many : l.count + length (remaining_words l.rest) ≡ length (words l.fn.text);
      left : AreBitIndexWords (remaining_words l.rest);
    }

abbrev pub decreases-loop-rest : goal.decreases-loop-rest
decreases-loop-rest l = length (remaining_words l.rest)
