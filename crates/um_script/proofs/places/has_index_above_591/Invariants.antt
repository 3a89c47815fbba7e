use Rattle.{
  std.{proofs.Common.{◌≡◌, length}, specs.List.list_any},
  um_lines.specs.Words.words,
  um_script.specs.{ScriptReading.is_index_above_591, Held.{remaining_words, AreDecimalWords}},
}
use Rattle.um_script.proofs.places.has_index_above_591.Given as goal

-- the text contains an index above 591 if and only if the words that remain to be tested contain one
abbrev pub invariant-loop-rest : goal.invariant-loop-rest
invariant-loop-rest l =
    record {
      same : list_any is_index_above_591 (words l.fn.text) ≡ list_any is_index_above_591 (remaining_words l.rest);
      decimal : AreDecimalWords (remaining_words l.rest);
    }

abbrev pub decreases-loop-rest : goal.decreases-loop-rest
decreases-loop-rest l = length (remaining_words l.rest)
