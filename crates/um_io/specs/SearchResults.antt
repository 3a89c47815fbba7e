-- What a line reader finds in its buffered octets (used inside this crate).
use Rattle.std.specs.Prelude.{ℕ, ◌≡◌, ◌≤◌, ◌<◌, ◌+◌, Bool, true, false, List, [], ◌++◌, length, Option, Result}
use Rattle.std.specs.Prelude.{MatchResult, ◌⊎◌}
use Rattle.std.specs.Io.KnownBytes.{Consumes, Keeps, IsAtEnd}
use Rattle.um_io.specs.Lines.{IsLine, IsFirstLineFeed}
use Rattle.um_io.specs.Reading.{ReaderState, NeedsMoreOctets, line_limit}
use Rattle.um_io.specs.declared.lines.LineSearchResult.{LineSearchResult}
use Rattle.um_io.specs.declared.lines.LineSearchResult.TheVariants.{Line, NoOctets, LineTooLong, PastInputLimit}
use Rattle.um_io.specs.declared.streams.Failed.{Failed}

-- what a reader finds in buffered octets without a line feed, given the numbers of octets within and past the input limit, and whether the
-- source has ended
abbrev pub IsFoundWithoutLineFeed : (octets_within_limit octets_past_limit : ℕ) (ended : Bool) (found : LineSearchResult) → Type 0
IsFoundWithoutLineFeed within past ended (Line n with_feed) = (n ≡ within) × (with_feed ≡ within) × (0 < within)
    × (within ≤ line_limit) ×
    (past ≡ 0)
    × (ended ≡ true)
IsFoundWithoutLineFeed within past ended NoOctets = (within ≡ 0) × (past ≡ 0) × (ended ≡ true)
IsFoundWithoutLineFeed within past ended LineTooLong = line_limit < within
IsFoundWithoutLineFeed within past ended PastInputLimit = (within ≤ line_limit) × (0 < past)

-- there is no result yet for `octets_within_limit` buffered octets without a line feed: they fit in a line, no octets are past the input
-- limit, and the source has not ended
pub record HasNoResultYet (octets_within_limit octets_past_limit : ℕ) (ended : Bool) : Type 0 where
  pub in_limit : octets_within_limit ≤ line_limit
  pub no_excess : octets_past_limit ≡ 0
  pub not_ended : ended ≡ false

-- what a reader finds in its buffered octets
abbrev pub IsFoundInBuffer : (state : ReaderState) (found : LineSearchResult) → Type 0
IsFoundInBuffer r (Line n with_feed) = (IsFirstLineFeed r.held n × (with_feed ≡ n + 1)) ⊎ (IsLine r.held
    × IsFoundWithoutLineFeed (length r.held) (length r.excess) r.ended (Line n with_feed))
IsFoundInBuffer r found = IsLine r.held × IsFoundWithoutLineFeed (length r.held) (length r.excess) r.ended found

-- the octets `octets_read` were read from the source and added to the buffer; no line was returned
pub record HasReadOctets (reader reader' : ReaderState) (unread_before unread_after : Option (List ℕ)) (octets_read : List ℕ) : Type 0
  where
    pub consumed : Consumes unread_before unread_after octets_read
    pub octets : reader'.held ++ reader'.excess ≡ reader.held ++ reader.excess ++ octets_read
    pub octet_count : reader'.octet_count ≡ reader.octet_count
    pub line_count : reader'.line_count ≡ reader.line_count
    pub is_over : reader'.is_over ≡ reader.is_over
    pub ended : reader'.ended ≡ true → reader.ended ≡ false → IsAtEnd unread_after
    pub no_read_after_end : reader.ended ≡ true → (octets_read ≡ []) × (reader'.ended ≡ true)

-- one read from the source appends octets to the buffer, or fails and changes nothing
abbrev pub IsReadResult : (before after : ReaderState) (unread_before unread_after : Option (List ℕ)) (result : Result Unit Failed) →
    Type 0
IsReadResult r r' left left' result =
    MatchResult result
    (λ _. (came : List ℕ) × HasReadOctets r r' left left' came × (r'.ended ≡ false → 0 < length came))
    (λ _. (r' ≡ r) × Keeps left left')

-- the result of a search for the next line, with all its reads; nothing is read if the buffered octets already determine the result
pub record IsSearchResult (reader reader' : ReaderState) (unread_before unread_after : Option (List ℕ)) (result : Result
    LineSearchResult Failed) : Type 0 where
  pub octets_read : List ℕ
  pub has_read : HasReadOctets reader reader' unread_before unread_after octets_read
  pub read_if_needed : NeedsMoreOctets reader ⊎ (octets_read ≡ [])
  pub outcome : MatchResult result (λ found. IsFoundInBuffer reader' found) (λ _. NeedsMoreOctets reader')
