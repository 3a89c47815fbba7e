-- The results of successive calls of a line reader (this project's own rule).
use Rattle.std.specs.Prelude.{ℕ, ◌≡◌, ◌≤◌, ◌<◌, List, [], ◌∷◌, ◌++◌, length, All, Option}
use Rattle.std.specs.Borrow.{Bor}
use Rattle.um_io.specs.Lines.{IsLine, text_of_lines, lines_of_octets}
use Rattle.um_io.specs.Reading.{ReaderState, input_limit, line_limit}
use Rattle.um_io.specs.Next.{IsReaderStep}
use Rattle.um_io.specs.declared.lines.Next.{Next}
use Rattle.um_io.specs.declared.lines.Next.TheVariants.{Line, End, Long, TooMany, Failed}

-- successive calls lead a reader from the state `before` to the state `after`, return exactly these lines, and read exactly these octets
abbrev pub CallsReturnLines : (before : ReaderState) (unread_before : Option (List ℕ)) (lines : List (List ℕ))
    (octets_read : List ℕ) (after : ReaderState) (unread_after : Option (List ℕ)) → Type 0
CallsReturnLines r left [] came r' left' = (came ≡ []) × (r' ≡ r) × (left' ≡ left)
CallsReturnLines r left (line ∷ lines) came r' left' =
    (first rest : List ℕ) × (mid : ReaderState) × (between : Option (List ℕ)) × (answer : Bor (List ℕ)) × (answer.now ≡ line)
    × (came ≡ first ++ rest)
    × IsReaderStep r mid left between (Line answer) first × CallsReturnLines mid between lines rest r' left'

-- `octets_read`, the part of `octets` that was read, consists of the complete `lines`, then an incomplete `line` within the input limit,
-- and then `octets_past_limit`, the octets past that limit
pub record DividesReadOctets (octets octets_read : List ℕ) (lines : List (List ℕ)) (line octets_past_limit : List ℕ) : Type 0 where
  pub unread : List ℕ
  pub octets_split : octets ≡ octets_read ++ unread
  pub read_split : octets_read ≡ text_of_lines lines ++ (line ++ octets_past_limit)
  pub no_line_feed : All IsLine lines
  pub line_has_no_feed : IsLine line
  pub limit : length (text_of_lines lines ++ line) ≤ input_limit
  pub octets_past_only_at_input_limit : 0 < length octets_past_limit → length (text_of_lines lines ++ line) ≡ input_limit

-- the reader stops with this result after it has read the octets `came`, the first part of `octets`, and returned these lines
abbrev pub ReaderStopsWith : Next → (octets came : List ℕ) → List (List ℕ) → Type 0
-- `Line` does not stop the reader, so nothing is claimed
ReaderStopsWith (Line line) octets came lines = Unit {0}
-- at the end of the input, the lines returned are all lines of the input
ReaderStopsWith End octets came lines = lines ≡ lines_of_octets octets
-- the reader stops because the next line exceeds the line limit
ReaderStopsWith Long octets came lines = (line past : List ℕ) × DividesReadOctets octets came lines line past
    × (line_limit < length line)
-- the reader stops because the next line, which does not exceed the line limit, does not end within the input limit
ReaderStopsWith TooMany octets came lines =
    (line past : List ℕ) × DividesReadOctets octets came lines line past × (length line ≤ line_limit) × (0 < length past)
-- the reader stops because a read failed before the next line ended
ReaderStopsWith Failed octets came lines = (line : List ℕ) × DividesReadOctets octets came lines line [] × (length line ≤ line_limit)
