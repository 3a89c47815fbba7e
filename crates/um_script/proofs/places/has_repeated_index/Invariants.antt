use Rattle.{
  std.proofs.Common.{◌≡◌, length, false, replicate},
  um_lines.specs.Words.words,
  um_script.proofs.ScriptLines.has_marked_or_repeated_index,
  um_script.specs.Held.{remaining_words, decimal_word_values, AreBitIndexWords},
}
use Rattle.um_script.proofs.places.has_repeated_index.Given as goal

-- the text repeats an index if and only if the words that remain to be tested contain an index that is already marked or that they repeat
abbrev pub invariant-loop-rest : goal.invariant-loop-rest
invariant-loop-rest l =
    record {
      room : length l.named ≡ 592;
      same : has_marked_or_repeated_index (replicate 592 false) (decimal_word_values (words l.fn.text)) ≡
          has_marked_or_repeated_index l.named
          (decimal_word_values
          (remaining_words l.rest));
      left : AreBitIndexWords (remaining_words l.rest);
    }

abbrev pub decreases-loop-rest : goal.decreases-loop-rest
decreases-loop-rest l = length (remaining_words l.rest)
