-- How octets begin with complete lines.
use Rattle.std.specs.Prelude.{ℕ, ◌≡◌, List, ◌++◌, All}
use Rattle.um_io.specs.Lines.{IsLine, text_of_lines}

-- `octets` consists of `lines`, each followed by a line feed, and then `rest`
pub record BeginsWithLines (octets : List ℕ) (lines : List (List ℕ)) (rest : List ℕ) : Type 0 where
  pub no_line_feed : All IsLine lines
  pub octets_split : octets ≡ text_of_lines lines ++ rest
