-- How much of the output has been written, and how much is pending.
use Rattle.std.specs.Prelude.{ℕ, ◌≡◌, ◌≤◌, List, ◌++◌, Option, Result, MatchResult}
use Rattle.std.specs.Io.KnownBytes.{Appends}
use Rattle.um_io.specs.Streams.{FailureCountRose}
use Rattle.um_driver.specs.Table.{SinkTakesPrefix}

-- the sink received the whole text if the result is `Ok`, and a prefix of it if the result is `Err`
abbrev pub SinkTakesTextIfOk : {T E : Type 0} (written_before written_after : Option (List ℕ)) (result : Result T E)
    (piece : List ℕ) →
    Type 0
SinkTakesTextIfOk taken taken' result piece =
    MatchResult result (λ _. Appends taken taken' piece) (λ _. SinkTakesPrefix taken taken' piece)

-- the sink received a prefix of the text, and the output buffer holds the rest (used inside this crate)
abbrev pub BuffersUnwrittenText : (text buffered : List ℕ) (written_before written_after : Option (List ℕ)) → Type 0
BuffersUnwrittenText text gathered' taken taken' = (w : List ℕ) × (text ≡ w ++ gathered') × Appends taken taken' w

-- the sink received a prefix of the text and, if the result is `Ok`, the output buffer holds the rest
abbrev pub BuffersTextIfOk : {T E : Type 0} (result : Result T E) (text buffered : List ℕ)
    (written_before written_after : Option (List ℕ)) → Type 0
BuffersTextIfOk result text gathered' taken taken' = MatchResult result (λ _. BuffersUnwrittenText text gathered' taken taken')
    (λ _. SinkTakesPrefix taken taken' text)

-- the failure count is unchanged if the result is `Ok`, and has risen if it is `Err`
abbrev pub CountsWriteFailure : {T E : Type 0} (result : Result T E) (before now : ℕ) → Type 0
CountsWriteFailure result before now = MatchResult result (λ _. now ≡ before) (λ _. FailureCountRose before now × (before ≤ now))
