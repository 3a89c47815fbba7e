-- How values are written in lines: in the same form as in input lines, with lowercase hexadecimal digits (this project's own rule).
use Rattle.std.specs.Prelude.{ℕ, ◌+◌, List, [], ◌∷◌, codes}
use Rattle.std.specs.Fmt.{decimal}
use Rattle.std.specs.List.{join_with_byte}
use Rattle.hex.specs.Hex.{encode_lower}
use Rattle.um_lines.specs.Fields.{LineField, FixedWord, BitDigits, OctetsBetween, Value, Number, NumberList, BitIndex, bit_digits}

-- octets as a word: `-` if there are none, otherwise two lowercase hexadecimal digits for each octet
abbrev pub octets_word : (octets : List ℕ) → List ℕ
octets_word [] = codes "-"
octets_word (octet ∷ rest) = encode_lower (octet ∷ rest)

-- the word that is written for a value in this field
abbrev pub value_word : LineField → Value → List ℕ
value_word (OctetsBetween least most) (NumberList octets) = octets_word octets
value_word (BitDigits count) (NumberList bits) = bit_digits bits
value_word field (Number n) = (48 + n) ∷ []
value_word field (NumberList octets) = encode_lower octets
value_word field (BitIndex n) = decimal n

-- the words of a line: a fixed word is written unchanged, and every other field takes the next value
abbrev pub words_of_values : (fields : List LineField) (values : List Value) → List (List ℕ)
words_of_values [] values = []
words_of_values (FixedWord text ∷ fields) values = text ∷ words_of_values fields values
words_of_values (field ∷ fields) [] = []
words_of_values (field ∷ fields) (value ∷ values) = value_word field value ∷ words_of_values fields values

-- the line that consists of the words for these values, separated by single spaces
abbrev pub line_of_values : (fields : List LineField) (values : List Value) → List ℕ
line_of_values fields values = join_with_byte 32 (words_of_values fields values)
