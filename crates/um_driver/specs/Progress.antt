-- How far a run has proceeded (used inside this crate).
use Rattle.std.specs.Prelude.{ℕ, ◌≡◌, ◌≤◌, true, false, List, [], ◌++◌, length, Bool, Option, Some, None, All, ◌⊎◌}
use Rattle.std.specs.Io.KnownBytes.{Appends, Consumes, IsAtEnd}
use Rattle.um_io.specs.Lines.{IsLine, EndsWithoutLineFeed, text_of_lines}
use Rattle.um_io.specs.Reading.{ReaderState, IsValidReader, input_limit, buffer_limit}
use Rattle.um_io.specs.Streams.{FailureCountRose}
use Rattle.um_driver.specs.Rules.{Rules, Runs, concatenated_text}
use Rattle.um_driver.specs.Outputs.{processed_lines, response}
use Rattle.um_driver.specs.Table.{IsRefusalOrNone, ReadsAtMostOneBufferAhead, SinkTakesPrefix}
use Rattle.um_driver.specs.declared.status.Status.{Status}
use Rattle.um_driver.specs.declared.status.Status.TheVariants.{BadWords, ReadFault, WriteFault, NoMemory}

-- if the octets of the source were known at the start, the source is now at its end
abbrev pub SourceHasEnded : (unread_before unread_after : Option (List ℕ)) → Type 0
SourceHasEnded None left' = Unit {0}
SourceHasEnded (Some x) left' = IsAtEnd left'

-- the octets read are `lines`, each with its line feed, followed by the octets `held` in the buffer; or the source has ended, the last line
-- has no line feed, and the buffer is empty. The lines account for `answered_octet_count` octets
abbrev pub LinesAccountForOctets : (input_read : List ℕ) (lines : List (List ℕ)) (held : List ℕ) (answered_octet_count : ℕ)
    (ended : Bool) → Type 0
LinesAccountForOctets q lines held answered ended =
    ((q ≡ text_of_lines lines ++ held) × (answered ≡ length (text_of_lines lines)))
    ⊎ (EndsWithoutLineFeed q lines × (held ≡ []) × (ended ≡ true) × (answered ≡ length q))

-- the reader has read the octets `input` and returned `lines`, which account for `answered_octet_count` of these octets; it still buffers
-- the octets `held`
pub record AreLinesRead (input : List ℕ) (lines : List (List ℕ)) (held : List ℕ) (answered_octet_count : ℕ) (ended : Bool)
    (unread_before unread_after : Option (List ℕ)) : Type 0 where
  pub read : Consumes unread_before unread_after input
  pub no_line_feed : All IsLine lines
  pub lines_account_for_octets : LinesAccountForOctets input lines held answered_octet_count ended
  pub in_range : answered_octet_count ≤ input_limit
  pub fits_buffer : length held ≤ buffer_limit
  pub at_end : ended ≡ true → SourceHasEnded unread_before unread_after

-- a point in a run: the octets read and written so far, the lines processed and their answers, and the current state of the command
pub record IsPointOfRun {State : Type 0} (rules : Rules State) (start : State) (held : List ℕ) (answered_octet_count line_count : ℕ)
    (ended : Bool)
    (unread_before unread_after written_before written_after : Option (List ℕ)) : Type 0 where
  pub input_read : List ℕ
  pub output : List ℕ
  pub lines : List (List ℕ)
  pub answers : List (List ℕ)
  pub state : State
  pub reads : AreLinesRead input_read lines held answered_octet_count ended unread_before unread_after
  pub line_count_matches_lines : line_count ≡ length lines
  pub written : Appends written_before written_after output
  pub runs : Runs rules start lines answers state
  pub reads_little_ahead : ReadsAtMostOneBufferAhead rules start input_read output

-- the run continues: all answers so far have been written, except for the octets `gathered`, which are in the output buffer
pub record IsRunUnderway {State : Type 0} (rules : Rules State) (start : State) (Represents : State → Type 0) (reading : ReaderState)
    (unread_before unread_after written_before written_after : Option (List ℕ)) (gathered : List ℕ) : Type 0 where
  pub point : IsPointOfRun rules start (reading.held ++ reading.excess) reading.octet_count reading.line_count reading.ended unread_before
      unread_after written_before written_after
  pub represents : Represents point.state
  pub output : concatenated_text point.answers ≡ point.output ++ gathered
  pub valid : IsValidReader reading
  pub not_stopped : reading.is_over ≡ false

-- the response is this text and this status; `ReadFault`: the run needs more octets
abbrev pub IsResponse : (status : Status) (response : Option Status × List ℕ) (text : List ℕ) → Type 0
IsResponse ReadFault response text = response ≡ (None, text)
IsResponse WriteFault response text = ⊥
IsResponse NoMemory response text = ⊥
IsResponse BadWords response text = ⊥
IsResponse status response text = response ≡ (Some status, text)

-- the run ends with this status once the octets `gathered` in the output buffer, and then `text`, have been written
pub record IsRunEnding {State : Type 0} (rules : Rules State) (start : State) (Represents : State → Type 0) (status : Status)
    (unread_before unread_after written_before written_after : Option (List ℕ)) (gathered text : List ℕ) : Type 0 where
  pub held : List ℕ
  pub octet_count : ℕ
  pub line_count : ℕ
  pub ended : Bool
  pub point : IsPointOfRun rules start held octet_count line_count ended unread_before unread_after written_before written_after
  pub represents : Represents point.state
  pub output : concatenated_text point.answers ≡ point.output ++ gathered
  pub seen_end : Bool
  pub first_lines : (later : List (List ℕ)) × (processed_lines point.input_read seen_end ≡ point.lines ++ later)
  pub source_ended : seen_end ≡ true → SourceHasEnded unread_before unread_after
  pub prescribed : IsResponse status (response rules start point.input_read seen_end) (concatenated_text point.answers ++ text)
  pub is_refusal : IsRefusalOrNone text

-- the result of processing one line, before its output is written: the run continues (`None`), or ends with a status
abbrev pub IsLineOutcome : {State : Type 0} (rules : Rules State) (state : State) (Represents : (State → Type 0))
    (reading : ReaderState) (unread_before unread_after written_before written_after : Option (List ℕ)) (buffered text : List ℕ)
    (ended : Option Status) → Type 0
IsLineOutcome r a Represents reading left left' taken taken' gathered text None =
    IsRunUnderway r a Represents reading left left' taken taken' (gathered ++ text)
-- after a read failure, the output buffer is empty, because it is written before the source is read
IsLineOutcome r a Represents reading left left' taken taken' gathered text (Some ReadFault) =
    IsRunEnding r a Represents ReadFault left left' taken taken' gathered [] × (gathered ≡ [])
IsLineOutcome r a Represents reading left left' taken taken' gathered text (Some status) =
    IsRunEnding r a Represents status left left' taken taken' gathered text

-- the result of writing the last text of a run: the status of the run if everything was written, `WriteFault` if only a prefix was; after a
-- read failure, nothing is written
abbrev pub IsLastWriteResult : (status : Status) (text : List ℕ) (written_before written_after : Option (List ℕ)) (result : Status)
    → Type 0
IsLastWriteResult ReadFault text taken taken' result = (result ≡ ReadFault) × (taken' ≡ taken)
IsLastWriteResult status text taken taken' result =
    ((result ≡ status) × Appends taken taken' text) ⊎ ((result ≡ WriteFault) × SinkTakesPrefix taken taken' text)

-- the failure count of the source rises if the status is `ReadFault`, and otherwise is unchanged; processing a line never ends with
-- `WriteFault`, `NoMemory` or `BadWords`
abbrev pub ReadFailureIsCounted : (status : Option Status) (failures_before failures_after : ℕ) → Type 0
ReadFailureIsCounted (Some ReadFault) before now = FailureCountRose before now × (before ≤ now)
ReadFailureIsCounted (Some WriteFault) before now = ⊥
ReadFailureIsCounted (Some NoMemory) before now = ⊥
ReadFailureIsCounted (Some BadWords) before now = ⊥
ReadFailureIsCounted _ before now = now ≡ before
