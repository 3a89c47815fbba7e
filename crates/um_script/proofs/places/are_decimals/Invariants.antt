use Rattle.{
  std.{proofs.Common.{◌≡◌, not, length}, specs.List.list_any},
  um_lines.specs.{Words.words, Fields.is_decimal},
  um_script.specs.Held.remaining_words,
}
use Rattle.um_script.proofs.places.are_decimals.Given as goal

-- the text contains a word that is not a decimal number if and only if the words that remain to be tested contain one
abbrev pub invariant-loop-rest : goal.invariant-loop-rest
invariant-loop-rest l =
    list_any (λ w. not (is_decimal w)) (words l.fn.text) ≡ list_any (λ w. not (is_decimal w)) (remaining_words l.rest)

abbrev pub decreases-loop-rest : goal.decreases-loop-rest
decreases-loop-rest l = length (remaining_words l.rest)
