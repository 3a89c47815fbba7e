-- The state of a line reader (this project's own rule). An input has at most 67,108,864 octets; a line has at most 4,096, not counting its
-- line feed.
use Rattle.std.specs.Prelude.{ℕ, ◌≡◌, ◌≤◌, ◌<◌, ◌+◌, ◌-◌, Bool, true, false, List, [], length, take, drop}
use Rattle.std.specs.Prelude.{◌⊎◌}
use Rattle.um_io.specs.Lines.{IsLine}

-- the maximum number of octets in an input
abbrev pub input_limit : ℕ
input_limit = 67108864

-- the maximum number of octets in a line, without its line feed
abbrev pub line_limit : ℕ
line_limit = 4096

-- the maximum number of octets that a reader buffers: the longest line and its line feed
abbrev pub buffer_limit : ℕ
buffer_limit = line_limit + 1

-- the state of a line reader: the buffered octets within the input limit (`held`) and past it (`excess`), the numbers of octets
-- (`octet_count`) and lines (`line_count`) returned so far, whether the source has ended, and whether no further line follows (`is_over`)
pub record ReaderState : Type 0 where
  pub held : List ℕ
  pub excess : List ℕ
  pub octet_count : ℕ
  pub line_count : ℕ
  pub ended : Bool
  pub is_over : Bool

-- the state of a line reader that has read nothing yet
abbrev pub new_reader : ReaderState
new_reader = record { held = []; excess = []; octet_count = 0; line_count = 0; ended = false; is_over = false }

-- a line reader is in a valid state: the counts and the buffered octets are within their limits, and `excess` holds octets only if the
-- octets returned and those in `held` reach the input limit
pub record IsValidReader (reader : ReaderState) : Type 0 where
  pub limit : reader.octet_count + length reader.held ≤ input_limit
  pub excess : 0 < length reader.excess → reader.octet_count + length reader.held ≡ input_limit
  pub fits_buffer : length reader.held + length reader.excess ≤ buffer_limit
  pub line_count : reader.line_count ≤ reader.octet_count

-- the next result needs a read: the buffered octets contain no line feed and exceed no limit, and the source has not ended
pub record NeedsMoreOctets (reader : ReaderState) : Type 0 where
  pub no_line_feed : IsLine reader.held
  pub in_limit : length reader.held ≤ line_limit
  pub excess : reader.excess ≡ []
  pub ended : reader.ended ≡ false

-- the next result needs no read from the source
abbrev pub IsResultReady : ReaderState → Type 0
IsResultReady r = (r.is_over ≡ true) ⊎ (¬ NeedsMoreOctets r)

-- the reader has not stopped, and its next result needs a read from the source
abbrev pub NextResultNeedsRead : ReaderState → Type 0
NextResultNeedsRead r = (r.is_over ≡ false) × NeedsMoreOctets r

-- the state of a reader that buffers these octets, divided into those within the input limit and those past it; the reader has already
-- returned `answered` octets in `number` lines
abbrev pub reader_holding : (octets : List ℕ) (answered number : ℕ) (ended is_over : Bool) → ReaderState
reader_holding octets answered number ended is_over =
    let within = input_limit - answered in
    record {
      held = take within octets;
      excess = drop within octets;
      octet_count = answered;
      line_count = number;
      ended = ended;
      is_over =
          is_over;
    }
