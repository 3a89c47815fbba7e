-- How octets are divided into lines (this project's own rule). A line feed ends a line; octets after the last line feed are a line
-- without a line feed.
use Rattle.std.specs.Prelude.{ℕ, ◌≡◌, ◌<◌, List, [], ◌∷◌, ◌++◌, length, take, slice_index, All, nat_eq}
use Rattle.std.specs.Prelude.{if◌then◌else◌, ◌⊎◌}

-- the octet is not a line feed, 10
abbrev pub IsNotLineFeed : ℕ → Type 0
IsNotLineFeed octet = ¬ (octet ≡ 10)

-- the octets contain no line feed
abbrev pub IsLine : List ℕ → Type 0
IsLine line = All IsNotLineFeed line

-- the first line feed in the octets is at index `index`
pub record IsFirstLineFeed (octets : List ℕ) (index : ℕ) : Type 0 where
  pub in_range : index < length octets
  pub no_line_feed : IsLine (take index octets)
  pub is_line_feed : slice_index octets index ≡ 10

-- the lines in order, each followed by a line feed
abbrev pub text_of_lines : (lines : List (List ℕ)) → List ℕ
text_of_lines [] = []
text_of_lines (line ∷ lines) = line ++ 10 ∷ text_of_lines lines

-- `octets` consists of `lines`, each followed by a line feed except the last, which is not empty
pub record EndsWithoutLineFeed (octets : List ℕ) (lines : List (List ℕ)) : Type 0 where
  pub front : List (List ℕ)
  pub last : List ℕ
  pub lines_split : lines ≡ front ++ last ∷ []
  pub octets_split : octets ≡ text_of_lines front ++ last
  pub nonempty : 0 < length last

-- `octets` consists of `lines`; only the last may lack its line feed
pub record IsDividedIntoLines (octets : List ℕ) (lines : List (List ℕ)) : Type 0 where
  pub no_line_feed : All IsLine lines
  pub octets_split : (octets ≡ text_of_lines lines) ⊎ EndsWithoutLineFeed octets lines

-- prepends an octet to the first line of a list of lines; if the list is empty, the octet becomes its only line
abbrev pub push_onto_first_line : (octet : ℕ) (lines : List (List ℕ)) → List (List ℕ)
push_onto_first_line octet [] = (octet ∷ []) ∷ []
push_onto_first_line octet (line ∷ lines) = (octet ∷ line) ∷ lines

-- the lines that a list of octets consists of; only the last may lack its line feed
abbrev pub lines_of_octets : (octets : List ℕ) → List (List ℕ)
lines_of_octets [] = []
lines_of_octets (octet ∷ octets) = if nat_eq octet 10 then [] ∷ lines_of_octets octets else push_onto_first_line octet
    (lines_of_octets octets)
