-- How many of the command-line words are stored, and how much of each (this project's own rules).
use Rattle.std.specs.Prelude.{ℕ, List, [], ◌∷◌, ◌++◌, length, codes, nat_lt, nat_le, if◌then◌else◌}

-- a command-line word as it is stored: unchanged, or as `?` if it has more than eight octets
abbrev pub command_word_as_stored : (word : List ℕ) → List ℕ
command_word_as_stored word = if nat_le (length word) 8 then word else codes "?"

-- the stored words after one more word is added; a fifth word is dropped
abbrev pub words_with_added : (words : List (List ℕ)) (word : List ℕ) → List (List ℕ)
words_with_added words word = if nat_lt (length words) 4 then words ++ command_word_as_stored word ∷ [] else words
