-- The result of one call of a line reader (this project's own rule).
use Rattle.std.specs.Prelude.{ℕ, ◌≡◌, ◌≤◌, ◌<◌, ◌+◌, Bool, true, false, List, [], ◌∷◌, ◌++◌, length}
use Rattle.std.specs.Prelude.{Option, ◌⊎◌}
use Rattle.std.specs.Borrow.{MutBor, Fml}
use Rattle.std.specs.Io.BufRead.{Rests}
use Rattle.std.specs.Io.KnownBytes.{Consumes, Keeps, IsAtEnd}
use Rattle.um_io.specs.Streams.{FailureCountRose}
use Rattle.um_io.specs.Lines.{IsLine}
use Rattle.um_io.specs.Reading.{ReaderState, IsValidReader, NeedsMoreOctets, line_limit, buffer_limit}
use Rattle.um_io.specs.declared.lines.Next.{Next}
use Rattle.um_io.specs.declared.lines.Next.TheVariants.{Line, End, Long, TooMany, Failed}
use Rattle.um_io.specs.contracts.lines.Lines.{the_row}

-- the reader returned a line: `buffered_octets`, all available octets, are the `line`, its `line_feed` if it has one, and the octets that
-- remain buffered
pub record ReturnsLine (reader reader' : ReaderState) (buffered_octets line line_feed : List ℕ) : Type 0 where
  pub octets : buffered_octets ≡ line ++ line_feed ++ (reader'.held ++ reader'.excess)
  pub no_line_feed : IsLine line
  pub in_limit : length line ≤ line_limit
  pub nonempty : 0 < length (line ++ line_feed)
  pub octet_count : reader'.octet_count ≡ reader.octet_count + length (line ++ line_feed)
  pub line_count : reader'.line_count ≡ reader.line_count + 1
  pub is_over : reader'.is_over ≡ false

-- the reader returned no line: `buffered_octets`, all available octets, remain buffered, and those within the input limit contain no line
-- feed
pub record ReturnsNoLine (reader reader' : ReaderState) (buffered_octets : List ℕ) (is_over : Bool) : Type 0 where
  pub octets : buffered_octets ≡ reader'.held ++ reader'.excess
  pub no_line_feed : IsLine reader'.held
  pub octet_count : reader'.octet_count ≡ reader.octet_count
  pub line_count : reader'.line_count ≡ reader.line_count
  pub stops : reader'.is_over ≡ is_over

-- the result of one call, given all available octets: those that were buffered before the call and those that the call reads
abbrev pub IsNextLineResult : ReaderState → ReaderState → List ℕ → Next → Type 0
-- the result is a line that ends with a line feed, or the last octets of the input without a line feed
IsNextLineResult r r' all (Line line) = ReturnsLine r r' all line.now (10 ∷ []) ⊎ (ReturnsLine r r' all line.now [] ×
    (r'.held ++ r'.excess ≡ [])
    × (r'.ended ≡ true))
-- the result is `End`: the source has ended, and no octets remain
IsNextLineResult r r' all End = ReturnsNoLine r r' all false × (all ≡ []) × (r'.ended ≡ true)
-- the result is `Long`: the next line exceeds the line limit
IsNextLineResult r r' all Long = ReturnsNoLine r r' all true × (line_limit < length r'.held)
-- the result is `TooMany`: the input exceeds the input limit before the next line ends
IsNextLineResult r r' all TooMany = ReturnsNoLine r r' all true × (length r'.held ≤ line_limit) × (0 < length r'.excess)
-- the result is `Failed`: a read failed before the buffered octets contained a complete line
IsNextLineResult r r' all Failed = ReturnsNoLine r r' all true × NeedsMoreOctets r'

-- one call reads the octets `octets_read` from the source, only if needed and never after the source has ended, and returns `next`
pub record IsReaderStep (reader reader' : ReaderState) (unread_before unread_after : Option (List ℕ)) (next : Next) (octets_read : List
    ℕ) : Type 0 where
  pub consumed : Consumes unread_before unread_after octets_read
  pub fits_buffer : length (reader.held ++ reader.excess ++ octets_read) ≤ buffer_limit
  pub read_if_needed : NeedsMoreOctets reader ⊎ (octets_read ≡ [])
  pub no_read_after_end : reader.ended ≡ true → (octets_read ≡ []) × (reader'.ended ≡ true)
  pub ended : reader'.ended ≡ true → reader.ended ≡ false → IsAtEnd unread_after
  pub outcome : IsNextLineResult reader reader' (reader.held ++ reader.excess ++ octets_read) next

-- the result of the call is `End`: the input has ended
abbrev pub IsInputEnd : Next → Type 0
IsInputEnd End = Unit {0}
IsInputEnd _ = ⊥

-- one call returns this result, and leaves the reader in this state and these octets in the source
pub record IsNextLineCall (reader : ReaderState) (unread_before unread_after : Option (List ℕ)) (next : Next) (reader' : ReaderState) :
    Type 0 where
  pub valid : IsValidReader reader'
  pub already_stopped : reader.is_over ≡ true → (reader' ≡ reader) × IsInputEnd next × Keeps unread_before unread_after
  pub not_stopped : reader.is_over ≡ false → (came : List ℕ) × IsReaderStep reader reader' unread_before unread_after next came

-- when the borrow of the returned line ends, the reader is in a state that `IsNextLineCall` allows
abbrev pub LineBorrowEnds : (reader : MutBor ReaderState) (unread_before unread_after : Option (List ℕ)) (next : Next) → Fml
LineBorrowEnds s left left' next = Rests the_row s (IsNextLineCall s.now left left' next)

-- the failure count rises if the result is `Failed`, and otherwise is unchanged
abbrev pub CountsReadFailure : (before now : ℕ) (next : Next) → Type 0
CountsReadFailure before now Failed = FailureCountRose before now × (before ≤ now)
CountsReadFailure before now _ = now ≡ before
