-- What a run that ends has read and written, for each exit status (this project's own rule).
use Rattle.std.specs.Prelude.{ℕ, ◌≡◌, ◌≤◌, ◌+◌, Bool, true, List}
use Rattle.std.specs.Prelude.{[], ◌++◌, length, Option, Some, None, IfSome, ◌⊎◌}
use Rattle.std.specs.Io.KnownBytes.{Appends, Keeps}
use Rattle.um_io.specs.Streams.{FailureCountRose}
use Rattle.um_io.specs.Reading.{input_limit, buffer_limit}
use Rattle.um_lines.specs.declared.fault.LineFault.{LineFault}
use Rattle.um_lines.specs.Refusals.{refused_text}
use Rattle.um_driver.specs.Divided.{BeginsWithLines}
use Rattle.um_driver.specs.Rules.{Rules, Runs, concatenated_text}
use Rattle.um_driver.specs.Outputs.{processed_lines, response}
use Rattle.um_driver.specs.declared.status.Status.{Status}
use Rattle.um_driver.specs.declared.status.Status.TheVariants.{BadWords, ReadFault, WriteFault, NoMemory}

-- the first list is a prefix of the second
abbrev pub IsPrefixOf : (front whole : List ℕ) → Type 0
IsPrefixOf y z = (more : List ℕ) × (z ≡ y ++ more)

-- what a run that ends with this status has read and written, given the response that its rules prescribe for what it read
abbrev pub EndsWithStatus : (status : Status) (response : Option Status × List ℕ) (input_read output : List ℕ) → Type 0
EndsWithStatus ReadFault response q y = response ≡ (None, y)
EndsWithStatus WriteFault response q y = IsPrefixOf y response.1
EndsWithStatus NoMemory response q y = (q ≡ []) × (y ≡ [])
EndsWithStatus BadWords response q y = ⊥
EndsWithStatus status response q y = response ≡ (Some status, y)

-- the reader is at most one buffer ahead of the output: beyond the lines whose answers are fully written, no more octets were read than the
-- reader can hold
pub record ReadsAtMostOneBufferAhead {State : Type 0} (rules : Rules State) (start : State) (input_read output : List ℕ) : Type 0 where
  pub lines : List (List ℕ)
  pub answers : List (List ℕ)
  pub state : State
  pub partial_line : List ℕ
  pub runs : Runs rules start lines answers state
  pub begins : BeginsWithLines input_read lines partial_line
  pub is_prefix : IsPrefixOf (concatenated_text answers) output
  pub reads_little_ahead : length partial_line ≤ buffer_limit

-- if the octets of the source were known before the run, they are those that were read, followed by those that are still unread
abbrev pub IsReadFromSource : (source_before source_after : Option (List ℕ)) (input_read unread : List ℕ) → Type 0
IsReadFromSource None left' q rest = Unit {0}
IsReadFromSource (Some x) left' q rest = (x ≡ q ++ rest) × (left' ≡ Some rest)

-- the text is empty, or refuses a line
abbrev pub IsRefusalOrNone : (text : List ℕ) → Type 0
IsRefusalOrNone text = (text ≡ []) ⊎ ((number : ℕ) × (fault : LineFault) × (text ≡ refused_text number fault))

-- a whole run: what was read, left unread, and written; `ended` says whether the run met the end of the input. The command answered
-- `lines`, which led it to `state`; no octet was written but of their answers and of a refusal
pub record IsRun {State : Type 0} (rules : Rules State) (start : State) (Represents : State → Type 0) (status : Status)
    (unread_before unread_after written_before written_after : Option (List ℕ)) : Type 0 where
  pub input_read : List ℕ
  pub unread : List ℕ
  pub output : List ℕ
  pub ended : Bool
  pub read : IsReadFromSource unread_before unread_after input_read unread
  pub nothing_left : ended ≡ true → unread ≡ []
  pub written : Appends written_before written_after output
  pub read_bound : length input_read ≤ input_limit + buffer_limit
  pub ends_with_status : EndsWithStatus status (response rules start input_read ended) input_read output
  pub reads_little_ahead : ReadsAtMostOneBufferAhead rules start input_read output
  pub lines : List (List ℕ)
  pub answers : List (List ℕ)
  pub state : State
  pub first_lines : (later : List (List ℕ)) × (processed_lines input_read ended ≡ lines ++ later)
  pub runs : Runs rules start lines answers state
  pub represents : Represents state
  pub refusal : List ℕ
  pub is_refusal : IsRefusalOrNone refusal
  -- a refusal ends the response, and the answers are all that comes before it
  pub is_due : (refusal ≡ []) ⊎ ((response rules start input_read ended).1 ≡ concatenated_text answers ++ refusal)
  pub answers_begun : IsPrefixOf output (concatenated_text answers ++ refusal)

-- the failure count of the source has risen if the status is `ReadFault`, that of the sink if it is `WriteFault`; otherwise both are
-- unchanged
abbrev pub FailureCountsMatch : (status : Status)
    (read_failures_before read_failures_after write_failures_before write_failures_after : ℕ) → Type 0
FailureCountsMatch ReadFault read read' written written' = FailureCountRose read read' × (read ≤ read') × (written' ≡ written)
FailureCountsMatch WriteFault read read' written written' = (read' ≡ read) × FailureCountRose written written' × (written ≤ written')
FailureCountsMatch _ read read' written written' = (read' ≡ read) × (written' ≡ written)

-- ---- a run whose input is known

-- the sink received a prefix of the text
abbrev pub SinkTakesPrefix : (written_before written_after : Option (List ℕ)) (text : List ℕ) → Type 0
SinkTakesPrefix taken taken' z = (y : List ℕ) × IsPrefixOf y z × Appends taken taken' y

-- the output of a run that ends with `status`, given the status and the text that its rules prescribe: a prefix of the text after a read or
-- write failure, nothing if memory could not be allocated, otherwise the whole text, and the two statuses agree
abbrev pub WritesAsPrescribed : (status : Status) (prescribed : Option Status × List ℕ)
    (written_before written_after : Option (List ℕ))
    → Type 0
WritesAsPrescribed ReadFault due taken taken' = SinkTakesPrefix taken taken' due.1
WritesAsPrescribed WriteFault due taken taken' = SinkTakesPrefix taken taken' due.1
WritesAsPrescribed NoMemory due taken taken' = Keeps taken taken'
WritesAsPrescribed status due taken taken' = (due.0 ≡ Some status) × Appends taken taken' due.1

-- the run ends as the rules prescribe for the whole input; if the source, the sink or an allocation fails, only a prefix of the prescribed
-- output is written
abbrev pub EndsAsPrescribed : {State : Type 0} (rules : Rules State) (state : State) (status : Status)
    (unread written_before written_after : Option (List ℕ)) → Type 0
EndsAsPrescribed r a status left taken taken' = IfSome left (λ x. WritesAsPrescribed status (response r a x true) taken taken')
