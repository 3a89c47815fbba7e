-- The C structs of erasure decoding and of a receiver of a time slot, and what the calls answer.
use Rattle.std.specs.Prelude.{ℕ, ◌≡◌, ◌+◌, ◌-◌, nat_le, max, if◌then◌else◌, Bool, true, false, ℤ, pos}
use Rattle.std.specs.Prelude.{List, map, replicate, slice_index, Option, Some, None, MatchOption, IsSome, Result, Ok, Err}
use Rattle.um_block.specs.Received.{IsReceivedTsc, coded_soft_bits}
use Rattle.um_block.specs.interleave.Bursts.{IsInterleaved}
use Rattle.um_erasing.specs.Erasing.{IsErasingDecodedBlock, without_burst, wrong_training_of_bursts}
use Rattle.um_erasing.specs.declared.blocks.ErasingDecodedBlock.{ErasingDecodedBlock}
use Rattle.um_slot.specs.Numbers.{channel_number}
use Rattle.um_slot.specs.Slots.{EndsWith, Takes, restarted, settings_of, softened}
use Rattle.um_slot.specs.declared.slots.Slot.{Slot}
use Rattle.um_slot.specs.declared.slots.FinishedBlock.{FinishedBlock}
use Rattle.um_slot.specs.declared.slots.Refusal.{Refusal}
use Rattle.um_slot.specs.declared.slots.Refusal.TheVariants.{Invalid, NoFrame, Doubled, Late}
use Rattle.um_c.specs.Reports.{ReportsBlock}
use Rattle.um_c.specs.declared.blocks.BlockReport.{BlockReport}
use Rattle.um_c.specs.declared.erasing.Erasure.{Erasure}
use Rattle.um_c.specs.declared.slots.SlotBlock.{SlotBlock}

-- the bursts that were decoded in the end: without the burst that was erased, if one was
abbrev pub decoded_bursts : (bursts : List (List ℤ)) (erased : Option ℕ) → List (List ℤ)
decoded_bursts bursts None = bursts
decoded_bursts bursts (Some index) = without_burst bursts index

-- `report`, `rank` and `erasure` are the report on a block of which at most `max_words` words were tried, and as many without each of at
-- most `erasures` bursts; `soft` are the deinterleaved soft bits that were decoded in the end
pub record IsErasingReport (bursts : List (List ℤ)) (max_words erasures rank : ℕ) (report : BlockReport) (erasure : Erasure) : Type
    0 where
  pub received : ErasingDecodedBlock
  pub is_received : IsErasingDecodedBlock bursts max_words erasures received
  pub soft : List ℤ
  pub deinterleaved : IsInterleaved soft (map coded_soft_bits (decoded_bursts bursts received.erased))
  pub reports_block : ReportsBlock (decoded_bursts bursts received.erased) received.block.report report
  pub same_rank : rank ≡ received.block.rank
  pub wrong_training : erasure.wrong_training ≡ received.wrong_training
  pub erased : MatchOption received.erased (erasure.erased ≡ 4) (λ index. erasure.erased ≡ index)

-- the sum of the three least of four numbers of wrong training bits: those of a block's three best bursts
abbrev pub three_best : (wrong : List ℕ) → ℕ
three_best wrong =
    slice_index wrong 0 + slice_index wrong 1 + slice_index wrong 2 + slice_index wrong 3
    - max (max (slice_index wrong 0) (slice_index wrong 1)) (max (slice_index wrong 2) (slice_index wrong 3))

-- how much is tried where a limit is set: `full` if the three best bursts have at most `limit` wrong training bits, else `least`
abbrev pub tried : (limit : ℕ) (wrong : List ℕ) (full least : ℕ) → ℕ
tried limit wrong full least = if nat_le (three_best wrong) limit then full else least

-- the report on a block of which words and erasures are tried only where its three best bursts have at most `limit` wrong training bits, of
-- the training sequence that the four bursts have
pub record IsLimitedReport (bursts : List (List ℤ)) (max_words erasures limit rank : ℕ) (report : BlockReport) (erasure : Erasure) :
    Type 0 where
  pub tsc : ℕ
  pub detected : IsReceivedTsc bursts tsc
  pub reported : IsErasingReport bursts (tried limit (wrong_training_of_bursts bursts tsc) max_words 1)
      (tried limit (wrong_training_of_bursts bursts tsc) erasures 0) rank report erasure

-- the number in the C API for the reason why a frame was not taken
abbrev pub slot_refusal_number : Refusal → ℕ
slot_refusal_number Invalid = 3
slot_refusal_number NoFrame = 4
slot_refusal_number Doubled = 5
slot_refusal_number Late = 6

-- `block` is the report on a block whose bursts a receiver has collected
pub record IsSlotBlock (words erasures limit : ℕ) (finished : FinishedBlock) (bursts : List (List ℤ)) (block : SlotBlock) : Type 0 where
  pub report : IsLimitedReport (map (map softened) bursts) words erasures limit block.rank block.report block.erasure
  pub first : block.first ≡ finished.place.first
  pub channel : block.channel ≡ channel_number finished.place.position.channel
  pub subchannel : block.subchannel ≡ finished.place.position.subchannel
  pub heard : block.heard ≡ finished.heard

-- four bursts of zeros
abbrev pub no_bursts : List (List ℤ)
no_bursts = replicate 4 (replicate 148 (pos 0))

-- what a call answers and writes where a receiver gives `result` and the bursts `done`: 0; or 1 and the block that is finished; or the
-- number of the refusal
abbrev pub SlotAnswers : (old : Slot) (result : Result (Option FinishedBlock) Refusal) (done : List (List ℤ)) (before : SlotBlock)
    (answer : ℕ) (after : SlotBlock) → Type 0
SlotAnswers old (Err refusal) done before answer after = (answer ≡ slot_refusal_number refusal) × (after ≡ before)
SlotAnswers old (Ok None) done before answer after = (answer ≡ 0) × (after ≡ before)
SlotAnswers old (Ok (Some finished)) done before answer after =
    (answer ≡ 1) × IsSlotBlock old.words old.erasures old.limit finished done after

-- what a call that takes a frame answers and writes
pub record SlotTakes (old : Slot) (frame came : ℕ) (burst : List ℤ) (before : SlotBlock) (answer : ℕ) (new : Slot)
    (after : SlotBlock) : Type 0 where
  pub result : Result (Option FinishedBlock) Refusal
  pub done : List (List ℤ)
  pub takes : Takes old frame came burst no_bursts result new done
  pub answers : SlotAnswers old result done before answer after

-- what a call that ends the block which is being collected answers and writes
pub record SlotEnds (old : Slot) (before : SlotBlock) (answer : ℕ) (new : Slot) (after : SlotBlock) : Type 0 where
  pub result : Result (Option FinishedBlock) Refusal
  pub ends : EndsWith (settings_of old) old no_bursts result new
  pub answers : SlotAnswers old result new.bursts before answer after

-- the call returns true and sets the receiver back, or false if a setting is out of range, and writes nothing
abbrev pub SlotRestarts : (old : Slot) (answer : Bool) (new : Slot) → Type 0
SlotRestarts old true new = IsSome (settings_of (restarted old)) × (new ≡ restarted old)
SlotRestarts old false new = (settings_of (restarted old) ≡ None) × (new ≡ old)
