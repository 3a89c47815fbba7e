use Rattle.{
  std.{proofs.Common.{◌≡◌, ◌≤◌, min, drop, IsTrue}, specs.Str.{all_ascii_digits, Parse.{digits_value, digits_value_after}}},
}
use Rattle.um_script.proofs.places.bit_index_of_word.Given as goal

-- the value so far, with the remaining digits appended, is the value of the word; both are capped at 592
abbrev pub invariant-loop-digit : goal.invariant-loop-digit
invariant-loop-digit l =
    record {
      in_range : l.place ≤ 592;
      digits : IsTrue (all_ascii_digits (drop l.digit-index l.word));
      same : min (digits_value_after 10 l.place (drop l.digit-index l.word)) 592 ≡ min (digits_value 10 l.word) 592;
    }
