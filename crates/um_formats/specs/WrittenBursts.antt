-- Lists of octets that form exactly one line (this project's own rule).
use Rattle.std.specs.Prelude.{ℕ, ◌≡◌, ◌≢◌, false, List}
use Rattle.std.specs.List.{All}
use Rattle.um_lines.specs.Words.{is_skipped_line}

-- `line` contains no line feed, and is not skipped as empty or as a comment
pub record IsUnskippedLine (line : List ℕ) : Type 0 where
  pub no_line_feed : All (λ octet. octet ≢ 10) line
  pub not_skipped : is_skipped_line line ≡ false
