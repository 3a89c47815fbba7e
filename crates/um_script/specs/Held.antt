-- The contents of the buffers that the parser of script lines fills (used inside this crate).
use Rattle.std.specs.Prelude.{ℕ, ◌≡◌, false, not, List, [], Option, Some, None, Result, Ok, Err}
use Rattle.std.specs.Prelude.{map}
use Rattle.std.specs.Borrow.{Bor}
use Rattle.std.specs.List.{list_any}
use Rattle.std.specs.Str.Parse.{digits_value}
use Rattle.um_lines.specs.declared.fault.LineFault.{LineFault}
use Rattle.um_lines.specs.Words.{words}
use Rattle.um_lines.specs.Fields.{is_decimal}
use Rattle.um_script.specs.ScriptReading.{is_index_above_591}

-- the octets that the parser returns, or the fault
abbrev pub octets_or_fault : Result (Bor (List ℕ)) LineFault → Result (List ℕ) LineFault
octets_or_fault (Ok octets) = Ok octets.now
octets_or_fault (Err fault) = Err fault

-- the bit indices that the parser returns, or the fault
abbrev pub bit_indices_or_fault : Result (Bor (List ℕ)) LineFault → Result (List ℕ) LineFault
bit_indices_or_fault (Ok places) = Ok places.now
bit_indices_or_fault (Err fault) = Err fault

abbrev pub decimal_word_values : (words : List (List ℕ)) → List ℕ
decimal_word_values ws = map (digits_value 10) ws

-- the words of the remaining text, if there is any
abbrev pub remaining_words : Option (Bor (List ℕ)) → List (List ℕ)
remaining_words None = []
remaining_words (Some text) = words text.now

-- every word is a decimal number
abbrev pub AreDecimalWords : List (List ℕ) → Type 0
AreDecimalWords ws = list_any (λ w. not (is_decimal w)) ws ≡ false

-- every word is the index of a bit in a block, 0 to 591, in decimal
pub record AreBitIndexWords (index_words : List (List ℕ)) : Type 0 where
  pub decimal : AreDecimalWords index_words
  pub in_range : list_any is_index_above_591 index_words ≡ false
