-- What a run of the command `make N T` does (this project's own rule).
use Rattle.std.specs.Prelude.{ℕ, ◌≡◌, ◌+◌, List, Option}
use Rattle.std.specs.Io.KnownBytes.{Appends, Keeps}
use Rattle.um_end.specs.um_block.Tallies.{counter_plus}
use Rattle.um_driver.specs.Table.{SinkTakesPrefix}
use Rattle.um_driver.specs.declared.status.Status.{Status}
use Rattle.um_driver.specs.declared.status.Status.TheVariants.{Done, WriteFault, NoMemory}
use Rattle.um_make.specs.declared.summary.Summary.{Summary}
use Rattle.um_make.specs.Runs.{AckedAtMostReceived, generated_summary}
use Rattle.um_make.specs.Texts.{summary_text}
use Rattle.um_link_command.specs.Courses.{RadioCounters}

-- the radio encoded and decoded each block that the summary counts; each block raised a counter by one, up to the largest `u64`
pub record RadioCountedBlocks (summary : Summary) (before after : RadioCounters) : Type 0 where
  pub sent : after.sent_blocks ≡ counter_plus summary.sent_blocks before.sent_blocks
  pub received : after.received_blocks ≡ counter_plus (summary.good_blocks + summary.bad_blocks) before.received_blocks

-- the whole text was written (`Done`), or a prefix of it before the sink failed (`WriteFault`)
abbrev pub IsTextWritten : (text : List ℕ) (status : Status) (written_before written_after : Option (List ℕ)) → Type 0
IsTextWritten text Done taken taken' = Appends taken taken' text
IsTextWritten text WriteFault taken taken' = SinkTakesPrefix taken taken' text
IsTextWritten text status taken taken' = ⊥

-- the summary of the generated session was written, or a prefix of it before the sink failed, and the radio counted its blocks; or an
-- allocation failed, nothing was written, and the radio's counters are unchanged. In the session, neither side has more messages
-- acknowledged than the other has delivered
abbrev pub IsMakeCommandRun : (message_count tsc : ℕ) (status : Status) (written_before written_after : Option (List ℕ))
    (before after : RadioCounters) → Type 0
IsMakeCommandRun n tsc NoMemory taken taken' before after = Keeps taken taken' × (after ≡ before)
IsMakeCommandRun n tsc status taken taken' before after =
    IsTextWritten (summary_text n tsc (generated_summary tsc n)) status taken taken'
    × RadioCountedBlocks (generated_summary tsc n) before after × AckedAtMostReceived (generated_summary tsc n)
